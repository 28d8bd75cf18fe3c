-- What `marks::settle` leaves open, from the laws.
-- Assumes nothing.
use native.Mathlib.Omega.{arith}
use Rattle.book.proofs.Walk.{found}
use Rattle.marks.proofs.Walks.{settling_end, partly_swept}
use Rattle.marks.proofs.settle.Goals as goal

pub loop-smaller : goal.loop-smaller
loop-smaller c = omega (arith, c.sweep.ensures.count, c.loop-test.true)

pub loop-preserved : goal.loop-preserved
loop-preserved c = partly_swept _ _ _ _ c.loop.invariant c.sweep.ensures.marks

pub returns : goal.returns
returns c = settling_end _ _ _ _ (found c.args.book.now) c.loop.invariant c.sweep.ensures.marks (omega (arith, c.sweep.ensures.count, c.loop-test.false))
