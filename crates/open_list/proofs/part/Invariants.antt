-- `open_list::part` meets its contract. The records before k are still to be looked at; those from m on are settled.
-- Assumes nothing.
use Prim.Native.Nat.{◌≤◌}
use Rattle.open_list.specs.Entries.{Keeps}
use Rattle.open_list.proofs.part.Given as goal

abbrev pub invariant-loop-k : goal.invariant-loop-k
invariant-loop-k l = (l.k ≤ l.m) × (l.m ≤ l.n) × Keeps l.n l.initial.list l.list
