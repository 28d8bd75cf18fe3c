-- Records that are right, for n groups and any test that says of a choice whether it is inconsistent.
--   Fine bad x            the test finds the choice consistent
--   Right n bad r         the record is one of the test's explanations or repairs
--   AllRight n bad rs     each of the records is
--   Once rs               no record stands twice
--   IsSeed n rs s         s is the largest number among the choices that the records allow
--   Yields n bad s r      what the seed s yields: the smallest number among the inconsistent choices within it, or its complement
--   Grows n old new       without the last of n + 1 groups the test `new` is the test `old`
-- Assumes nothing: these are definitions.
use Rattle.std.specs.Prelude.{ℕ, ◌^◌, ◌<◌, ◌≡◌, Bool, true, false}
use mathlib.Core.List.{List, [], ◌∷◌, Memᴰ}
use Rattle.std.proofs.Math.Option.{some}
use Rattle.meaning.specs.Choice.{complement}
use Rattle.meaning.specs.Explanation.{Explanation, Repair}
use Rattle.rounds.specs.Records.{Record, explains, repairs, allowed}
use Rattle.rounds.specs.Rounds.{Largest, Smallest}

abbrev pub Fine : (ℕ → Bool) → ℕ → Type 0
Fine bad x = bad x ≡ false

abbrev pub Right : ℕ → (ℕ → Bool) → Record → Type 0
Right n bad (explains e) = Explanation n (Fine bad) e
Right n bad (repairs r) = Repair n (Fine bad) r

abbrev pub AllRight : ℕ → (ℕ → Bool) → List Record → Type 0
AllRight n bad rs = (r : Record) → Memᴰ r rs → Right n bad r

abbrev pub Once : List Record → Type 0
Once [] = Unit {0}
Once (r ∷ rs) = (Memᴰ r rs → ⊥) × Once rs

abbrev pub IsSeed : ℕ → List Record → ℕ → Type 0
IsSeed n rs s = Largest (allowed rs) (2 ^ n) (some s)

abbrev pub Yields : ℕ → (ℕ → Bool) → ℕ → Record → Type 0
Yields n bad s (explains e) = (bad s ≡ true) × Smallest bad s e
Yields n bad s (repairs r) = (bad s ≡ false) × (r ≡ complement n s)

abbrev pub Grows : ℕ → (ℕ → Bool) → (ℕ → Bool) → Type 0
Grows n old new = (x : ℕ) → x < 2 ^ n → new x ≡ old x
