-- `text_writer::put_head` meets its contract.
-- Assumes nothing.
use mathlib.Core.Path.{sym, ap}
use native.Mathlib.Omega.{arith}
use lib.ListN.{length}
use Rattle.answer.proofs.Spaces.{wrote_none}
use Rattle.decimal.proofs.Putting.{wrote_as}
use Rattle.text.proofs.Written.{head_none, head_some}
use Rattle.text_writer.proofs.put_head.Goals as goal

pub returns-then-head-eq0 : goal.returns-then-head-eq0
returns-then-head-eq0 c = rw (head_none _ c.if-head-eq0.true) (wrote_none _ _)

pub put_after-requires : goal.put_after-requires
put_after-requires c = omega (arith, c.requires, ap length (head_some _ c.if-head-eq0.false))

pub returns : goal.returns
returns c = wrote_as _ _ _ _ _ _ (sym (head_some _ c.if-head-eq0.false)) c.put_after.ensures
