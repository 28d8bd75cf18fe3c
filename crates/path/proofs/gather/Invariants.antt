-- `path::gather` meets its contract. What the groups that are not in `rest` rest on is gathered.
-- Assumes nothing.
use Prim.Native.Nat.{◌^◌, ◌<◌}
use Rattle.path.proofs.Pressing.{Gathering}
use Rattle.path.proofs.gather.Given as goal

abbrev pub invariant-loop-rest : goal.invariant-loop-rest
invariant-loop-rest l = (l.rest < 2 ^ l.groups) × Gathering l.why l.set l.groups l.rest l.all

abbrev pub decreases-loop-rest : goal.decreases-loop-rest
decreases-loop-rest l = l.rest
