-- `explain::transition` meets its contract. The loop keeps: the groups above g decide.
-- Assumes nothing.
use Prim.Native.Nat.{◌-◌, ◌≤◌}
use mathlib.Core.Path.{◌≡◌}
use Rattle.book.specs.Bytes.{most_groups}
use Rattle.explain.specs.Explains.{reach_from, transition}
use Rattle.explain.proofs.transition.Given as goal

abbrev pub invariant-loop-g : goal.invariant-loop-g
invariant-loop-g l = (transition l.pool l.level ≡ reach_from (most_groups - l.g) l.g l.pool l.level) × (l.g ≤ most_groups)

abbrev pub decreases-loop-g : goal.decreases-loop-g
decreases-loop-g l = most_groups - l.g
