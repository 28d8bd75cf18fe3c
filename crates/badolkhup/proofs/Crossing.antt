-- Answers as numbers.
--   crosses_as               equal answers cross as the same numbers
--   crosses_one              an answer crosses as one number and one list of numbers
--   crosses_refused          what a refusal crosses as
--   back_answered, back_refused      the answer can be told from its numbers: nothing is lost
-- Assumes nothing.
use Prim.Native.Nat.{ℕ, suc}
use mathlib.Core.Path.{◌≡◌, refl, sym, ap, ap₂, subst, ◌∙◌}
use mathlib.Core.List.{List, [], ◌∷◌, ◌++◌}
use lib.ListN.{length, take, drop}
use Rattle.answer.specs.Answer.{Answer, answered, refused}
use Rattle.badolkhup.specs.Crossing.{Crosses, back_of}

pub crosses_as : {a b : Answer (List ℕ)} {r : ℕ} {ns : List ℕ} → a ≡ b → Crosses a r ns → Crosses b r ns
crosses_as {r = r} {ns = ns} e x = subst (λ a. Crosses a r ns) e x

pub crosses_one : {a : Answer (List ℕ)} {r r' : ℕ} {ns ns' : List ℕ} → Crosses a r ns → Crosses a r' ns' → (r ≡ r') × (ns ≡ ns')
crosses_one x y = (x.number ∙ sym y.number, x.numbers ∙ sym y.numbers)

pub crosses_refused : (n at : ℕ) {ns : List ℕ} → ns ≡ 1 ∷ at ∷ 0 ∷ 0 ∷ [] → Crosses (refused n at) n ns
crosses_refused n at e = record { number = refl; numbers = e }

-- ---- nothing is lost: the answer can be told from its numbers
take_front : (xs ys : List ℕ) → take (length xs) (xs ++ ys) ≡ xs
take_front [] ys = refl
take_front (x ∷ xs) ys = ap (λ (l : List ℕ). x ∷ l) (take_front xs ys)

pub back_answered : {vs : List ℕ} {r : ℕ} {ns : List ℕ} → Crosses (answered vs) r ns → back_of r ns ≡ answered vs
unfolding back_of
back_answered {vs = vs} x = ap₂ back_of x.number x.numbers ∙ ap answered (take_front vs (drop (length vs) (0 ∷ 0 ∷ 0 ∷ [])))

pub back_refused : {n at : ℕ} {r : ℕ} {ns : List ℕ} → Crosses (refused (suc n) at) r ns → back_of r ns ≡ refused (suc n) at
unfolding back_of
back_refused x = ap₂ back_of x.number x.numbers
