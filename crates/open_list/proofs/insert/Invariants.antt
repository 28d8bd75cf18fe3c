-- `open_list::insert` meets its contract. Place p is free, and the records listed before stand at the other places.
-- Assumes nothing.
use Prim.Native.Nat.{ℕ, ◌+◌, ◌≤◌}
use Rattle.open_list.specs.Entries.{Among, Beside}
use Rattle.open_list.proofs.insert.Given as goal

abbrev pub invariant-loop-g : goal.invariant-loop-g
invariant-loop-g l = (l.p ≤ l.n) × ((j : ℕ) → Among l.n l.initial.list j → Beside (l.n + 1) l.p l.list j)
