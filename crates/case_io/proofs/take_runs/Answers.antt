-- Each run takes from the front.
use Rattle.streams.proofs.Leaving.{Loses-then}
use Rattle.case_io.proofs.take_runs.Goals as goal

pub loop-preserved : goal.loop-preserved
loop-preserved g c = Loses-then _ _ _ c.loop.invariant c.take_run.ensures

pub returns-in_err-at : goal.returns-in_err-at
returns-in_err-at g c = Loses-then _ _ _ c.loop.invariant c.take_run.ensures
