-- `closing::close` meets its contract. Some of the records that might be open may still be.
-- Assumes nothing.
use Prim.Native.Nat.{◌≤◌}
use mathlib.Core.Path.{◌≡◌}
use lib.ListN.{length}
use Rattle.path.specs.Paths.{Leaves, Same, Narrows}
use Rattle.closing.proofs.close.Given as goal

abbrev pub invariant-loop-next : goal.invariant-loop-next
invariant-loop-next l = let s = l.fn.before.sides in let t = l.now.sides in record {
  most : l.now.most ≤ l.fn.before.most;
  long : length l.list ≡ length l.initial.list;
  same : Same s.free l.initial.why l.why;
  narrows : Narrows l.listed.groups (Leaves l.listed) s.taken s.left s.free l.initial.why t.free t.taken t.left l.why;
}

abbrev pub decreases-loop-next : goal.decreases-loop-next
decreases-loop-next l = l.now.sides.free
