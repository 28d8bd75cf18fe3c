-- What a call that writes answers, and what it leaves in the space that it was lent.
--   written_is r      the answer of a call that writes: the count, or the refusal's number and place
--   fitting room xs  xs, where they fit in a space of so many; else refusal 11
--   counted a        how many were written
--   over xs old      the space old with xs written into its front; what follows stays
--   laid a old       the space old after a call that was to write: a refusal leaves it as it came
--   Wrote old at xs new next      new is old with xs written from place `at` on, and next is the place after them
-- Assumes nothing: these are definitions.
use Rattle.std.specs.Prelude.{ℕ, Result, ◌+◌, ◌≡◌, List, [], ◌∷◌, ◌++◌, length, drop, ltb}
use Rattle.std.proofs.lemmas.List.Edits.{sets}
use Rattle.answer.specs.Answer.{Answer, answered, refused, ◌⇒◌, first, unless}
use Rattle.answer.specs.declared.Refusal.{Refusal}
use Rattle.answer.specs.Refusals.{answer_is}

abbrev pub written_is : Result ℕ Refusal → Answer (List ℕ)
written_is = answer_is (λ n. n ∷ [])

unfoldable pub fitting : {A : Type 0} → ℕ → List A → Answer (List A)
fitting room xs = unless (first ((ltb room (length xs) ⇒ 11) ∷ [])) 0 (answered xs)

unfoldable pub counted : {A : Type 0} → Answer (List A) → Answer (List ℕ)
counted (answered xs) = answered (length xs ∷ [])
counted (refused n at) = refused n at

abbrev pub over : {A : Type 0} → List A → List A → List A
over xs old = xs ++ drop (length xs) old

unfoldable pub laid : {A : Type 0} → Answer (List A) → List A → List A
laid (answered xs) old = over xs old
laid (refused n at) old = old

pub record Wrote {A : Type 0} (old : List A) (at : ℕ) (xs new : List A) (next : ℕ) : Type 0 where
  pub place : next ≡ at + length xs
  pub list : new ≡ sets old at xs
