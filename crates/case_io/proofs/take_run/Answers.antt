-- Each of the reads takes from the front.
use Rattle.streams.proofs.Leaving.{Loses-then}
use Rattle.case_io.proofs.take_run.Goals as goal

pub returns-in_err-n : goal.returns-in_err-n
returns-in_err-n g c = Loses-then _ _ _ c.next.ensures c.next-2.ensures

pub returns-then-at-gt1000000 : goal.returns-then-at-gt1000000
returns-then-at-gt1000000 g c = Loses-then _ _ _ c.next.ensures c.next-2.ensures

pub returns-then-space-end : goal.returns-then-space-end
returns-then-space-end g c = Loses-then _ _ _ c.next.ensures c.next-2.ensures

pub returns-in_err-next_all : goal.returns-in_err-next_all
returns-in_err-next_all g c = Loses-then _ _ _ (Loses-then _ _ _ c.next.ensures c.next-2.ensures) c.next_all.ensures

pub returns : goal.returns
returns g c = Loses-then _ _ _ (Loses-then _ _ _ c.next.ensures c.next-2.ensures) c.next_all.ensures
