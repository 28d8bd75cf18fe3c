-- `open_list::arrange` meets its contract. Below g, the first n records are still to be arranged.
-- Assumes nothing.
use Prim.Native.Nat.{◌≤◌}
use Rattle.open_list.specs.Entries.{Keeps}
use Rattle.open_list.proofs.arrange.Given as goal

abbrev pub invariant-loop-g : goal.invariant-loop-g
invariant-loop-g l = (l.n ≤ l.initial.n) × Keeps l.initial.n l.initial.list l.list
