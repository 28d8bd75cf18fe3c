-- Each read takes from the front.
use Rattle.streams.proofs.Leaving.{Loses-then}
use Rattle.case_io.proofs.Number.next_all.Goals as goal

pub loop-place-preserved : goal.loop-place-preserved
loop-place-preserved g c = Loses-then _ _ _ c.loop-place.invariant c.next.ensures

pub returns-in_err-place : goal.returns-in_err-place
returns-in_err-place g c = Loses-then _ _ _ c.loop-place.invariant c.next.ensures
