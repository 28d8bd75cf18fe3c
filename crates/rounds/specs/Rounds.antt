-- The round rule, for n groups and any test that says of a choice whether it is inconsistent.
--   largest p k           the largest number below k that passes the test p
--   first_from p k i       the smallest number from i on that passes, of the next k; i + k where none of them does
--   seed n rs             the largest number among the choices that the records allow
--   smallest bad s        the smallest number among the inconsistent choices within s
--   found n bad s         the record that a seed yields: that explanation where the seed is inconsistent, else the repair that is its complement
--   listing n bad k rs    the records rs, and what k rounds add to them, or fewer where no seed remains
--   is_none o              whether there is none
--   complete n rs         whether no seed remains
-- As facts:
--   Monotone n bad        a choice of n groups with an inconsistent choice inside it is inconsistent
--   Largest p k o         o is the largest number below k that passes, or there is none
--   Smallest bad s y      y is the smallest number among the inconsistent choices within s
-- Assumes nothing: these are definitions.
use Rattle.std.specs.Prelude.{ℕ, zero, suc, ◌^◌, ◌≤◌, ◌<◌, ◌≡◌, List, [], ◌∷◌, ◌++◌, Bool, true, false, ◌&&◌}
use Rattle.std.proofs.Math.Option.{Option, some, none}
use Rattle.meaning.specs.Choice.{Inside, complement}
use Rattle.rounds.specs.Records.{Record, explains, repairs, inside, allowed}

unfoldable pub largest : (ℕ → Bool) → ℕ → Option ℕ
largest p zero = none
largest p (suc k) = elim (p k) [ true ↦ some k | false ↦ largest p k ]

unfoldable pub first_from : (ℕ → Bool) → ℕ → ℕ → ℕ
first_from p zero i = i
first_from p (suc k) i = elim (p i) [ true ↦ i | false ↦ first_from p k (suc i) ]

unfoldable pub seed : ℕ → List Record → Option ℕ
seed n rs = largest (allowed rs) (2 ^ n)

unfoldable pub smallest : (ℕ → Bool) → ℕ → ℕ
smallest bad s = first_from (λ y. inside y s && bad y) s 0

unfoldable pub found : ℕ → (ℕ → Bool) → ℕ → Record
found n bad s = elim (bad s) [ true ↦ explains (smallest bad s) | false ↦ repairs (complement n s) ]

unfoldable pub listing : ℕ → (ℕ → Bool) → ℕ → List Record → List Record
listing n bad zero rs = rs
listing n bad (suc k) rs = elim (seed n rs) [ none ↦ rs | some s ↦ listing n bad k (rs ++ (found n bad s ∷ [])) ]

unfoldable pub is_none : Option ℕ → Bool
is_none none = true
is_none (some s) = false

unfoldable pub complete : ℕ → List Record → Bool
complete n rs = is_none (seed n rs)

abbrev pub Monotone : ℕ → (ℕ → Bool) → Type 0
Monotone n bad = (x y : ℕ) → y < 2 ^ n → Inside x y → bad x ≡ true → bad y ≡ true

abbrev pub Largest : (ℕ → Bool) → ℕ → Option ℕ → Type 0
Largest p k none = (z : ℕ) → z < k → p z ≡ false
Largest p k (some y) = (y < k) × (p y ≡ true) × ((z : ℕ) → y < z → z < k → p z ≡ false)

pub record Smallest (bad : ℕ → Bool) (s y : ℕ) : Type 0 where
  pub inside : Inside y s
  pub broken : bad y ≡ true
  pub lower : (z : ℕ) → Inside z s → bad z ≡ true → y ≤ z
