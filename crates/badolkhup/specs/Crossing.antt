-- How an answer crosses the boundary to C: as numbers.
--   number_of a         0 for an answer, or the refusal's number
--   values_of a         an answer's values; of a refusal, its place
--   blank              the numbers behind the last value: zeros
--   Crosses a r ns     the answer a crosses as the number r and the numbers ns: how many values there are, the values, and zeros to the fourth number
--   Crossing is P r ns the same of the answer that `is` gives of a result of which P holds
--   back_of r ns        the answer that crossed as r and ns
-- Assumes nothing: these are definitions.
use Rattle.std.specs.Prelude.{ℕ, zero, suc, ◌≡◌, List, [], ◌∷◌, length, take}
use Rattle.answer.specs.Answer.{Answer, answered, refused}
use Rattle.answer.specs.Space.{over}

abbrev pub number_of : Answer (List ℕ) → ℕ
number_of (answered vs) = 0
number_of (refused n at) = n

abbrev pub values_of : Answer (List ℕ) → List ℕ
values_of (answered vs) = vs
values_of (refused n at) = at ∷ []

abbrev pub blank : List ℕ
blank = 0 ∷ 0 ∷ 0 ∷ 0 ∷ []

pub record Crosses (a : Answer (List ℕ)) (r : ℕ) (ns : List ℕ) : Type 0 where
  pub number : r ≡ number_of a
  pub numbers : ns ≡ over (length (values_of a) ∷ values_of a) blank

abbrev pub Crossing : {E : Type 0} → (E → Answer (List ℕ)) → (E → Type 0) → ℕ → List ℕ → Type 0
Crossing {E = E} is P r ns = (e : E) × (P e × Crosses (is e) r ns)

unfoldable pub back_of : ℕ → List ℕ → Answer (List ℕ)
back_of zero [] = answered []
back_of zero (k ∷ ns) = answered (take k ns)
back_of (suc n) [] = refused (suc n) 0
back_of (suc n) (k ∷ []) = refused (suc n) 0
back_of (suc n) (k ∷ at ∷ ns) = refused (suc n) at
