-- `reader::put_head` meets its contract.
-- Assumes nothing.
use mathlib.Core.Path.{ap}
use native.Mathlib.Omega.{arith}
use lib.ListN.{length}
use Rattle.answer.proofs.Spaces.{wrote_none, wrote_one}
use Rattle.reader.proofs.Putting.{head_none, head_some}
use Rattle.reader.proofs.put_head.Goals as goal

pub returns-then-head-eq0 : goal.returns-then-head-eq0
returns-then-head-eq0 c = rw (head_none _ c.if-head-eq0.true) (wrote_none _ _)

pub put_plus-requires : goal.put_plus-requires
put_plus-requires c = omega (arith, ap length (head_some _ c.if-head-eq0.false))

pub overflow_add-result : goal.overflow_add-result
overflow_add-result c = omega (arith, ap length (head_some _ c.if-head-eq0.false), c.well_formed)

pub returns : goal.returns
returns c = rw (head_some _ c.if-head-eq0.false, c.put_plus.ensures) (wrote_one _ _ _)
