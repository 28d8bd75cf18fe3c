-- Each of the two reads takes from the front.
use Rattle.streams.proofs.Leaving.{Loses-then}
use Rattle.case_io.proofs.U64Number.next.Goals as goal

pub returns-in_err-low : goal.returns-in_err-low
returns-in_err-low g c = Loses-then _ _ _ c.next.ensures c.next-2.ensures

pub returns : goal.returns
returns g c = Loses-then _ _ _ c.next.ensures c.next-2.ensures
