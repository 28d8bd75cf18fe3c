-- What `report::put_records` leaves open, from the laws.
use mathlib.Core.Path.{sym}
use native.Mathlib.Omega.{arith}
use Rattle.answer.proofs.Spaces.{wrote_none, wrote_append}
use Rattle.decimal.proofs.Putting.{wrote_as}
use Rattle.report.proofs.Lines.{lines_none, lines_more}
use Rattle.report.proofs.put_records.Goals as goal

pub loop-k-init : goal.loop-k-init
loop-k-init c = (wrote_as _ _ _ _ _ _ (sym (lines_none _)) (wrote_none _ _), omega arith)

pub loop-k-preserved : goal.loop-k-preserved
loop-k-preserved c = (wrote_as _ _ _ _ _ _ (lines_more _ c.loop-k.k _ c.record_at.ensures) (wrote_append _ _ _ _ _ _ _ _ c.loop-k.invariant.0 c.put_record-i.ensures.wrote), omega (arith, c.put_record-i.ensures.upper_bound))
