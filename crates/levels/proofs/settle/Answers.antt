-- What `levels::settle` leaves open, from the laws.
-- Assumes nothing.
use native.Mathlib.Omega.{arith}
use Rattle.book.proofs.Walk.{found}
use Rattle.levels.proofs.Walks.{falling_next, settled}
use Rattle.levels.proofs.settle.Goals as goal

pub loop-arrivals-smaller : goal.loop-arrivals-smaller
loop-arrivals-smaller c = omega (arith, c.sweep.ensures.fell, c.loop-arrivals-test.true)

pub loop-arrivals-preserved : goal.loop-arrivals-preserved
loop-arrivals-preserved c = (
  omega (arith, c.sweep.auto.levels, c.loop-arrivals.invariant.0),
  falling_next _ _ _ _ _ c.requires.apart c.loop-arrivals.invariant.1 c.sweep.ensures.levels,
)

pub returns : goal.returns
returns c =
    settled _ _ _ _ _ (found c.args.book.now) c.requires.apart c.loop-arrivals.invariant.1 c.sweep.ensures.levels (omega (arith, c.sweep.ensures.fell, c.loop-arrivals-test.false))
