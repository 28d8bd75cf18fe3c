-- Explanations and repairs. There are n groups, and Fine says of a choice that it is consistent.
--   Explanation n Fine x     an inconsistent choice from which no single group can be taken without becoming consistent
--   Repair n Fine x          a set of groups whose complement is consistent, while giving back any one of its groups makes the rest inconsistent
-- Of a book:
--   ConsistentIn b x         some assignment satisfies all clauses in force
--   ExplanationOf b x        x is one of its explanations
--   RepairOf b x             x is one of its repairs
-- Assumes nothing: these are definitions.
use Rattle.std.specs.Prelude.{ℕ, ◌+◌, ◌-◌, ◌^◌, ◌<◌, ◌≡◌}
use Rattle.meaning.specs.Book.{Book}
use Rattle.meaning.specs.Choice.{digit, complement}
use Rattle.meaning.specs.Consistent.{Consistent}

pub record Explanation (n : ℕ) (Fine : ℕ → Type 0) (x : ℕ) : Type 0 where
  pub within : x < 2 ^ n
  pub broken : Fine x → ⊥
  pub least : (g : ℕ) → digit x g ≡ 1 → Fine (x - 2 ^ g)

pub record Repair (n : ℕ) (Fine : ℕ → Type 0) (x : ℕ) : Type 0 where
  pub within : x < 2 ^ n
  pub mends : Fine (complement n x)
  pub needed : (g : ℕ) → digit x g ≡ 1 → Fine (complement n x + 2 ^ g) → ⊥

abbrev pub ConsistentIn : Book → ℕ → Type 0
ConsistentIn b x = Consistent b.clauses x

abbrev pub ExplanationOf : Book → ℕ → Type 0
ExplanationOf b x = Explanation b.groups (ConsistentIn b) x

abbrev pub RepairOf : Book → ℕ → Type 0
RepairOf b x = Repair b.groups (ConsistentIn b) x
