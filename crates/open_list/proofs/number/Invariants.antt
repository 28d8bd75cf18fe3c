-- `open_list::number` meets its contract. The records before k stand in their order.
-- Assumes nothing.
use Prim.Native.Nat.{ℕ, ◌<◌}
use mathlib.Core.Path.{◌≡◌}
use Rattle.open_list.specs.Entries.{entry_at}
use Rattle.open_list.proofs.number.Given as goal

abbrev pub invariant-loop-k : goal.invariant-loop-k
invariant-loop-k l = (j : ℕ) → j < l.k → entry_at l.list j ≡ j
