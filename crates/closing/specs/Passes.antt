-- What passes over the records decide.
--   Passing n Fit taken left free why low most r why'   a pass over records decided more groups, or rules the path out; from low to most records may be open
-- Assumes nothing: this is a definition.
use Rattle.std.specs.Prelude.{ℕ, ◌≤◌, List, Result, Ok, Err}
use Rattle.path.specs.Paths.{Closing}
use Rattle.closing.specs.declared.Open.{Open}

abbrev pub Passing : (n : ℕ) → (ℕ → Type 0) → (taken left free : ℕ) (why : List ℕ) (low most : ℕ) → Result Open ℕ → List ℕ → Type 0
Passing n Fit taken left free why low most (Err c) why' = Closing n Fit taken left free why (Err c) why'
Passing n Fit taken left free why low most (Ok o) why' = Closing n Fit taken left free why (Ok o.sides) why' × (low ≤ o.most) × (o.most ≤ most)
