-- What `ask::put_forced` leaves open, from the laws.
-- Assumes nothing.
use mathlib.Core.Path.{◌≡◌, ◌∙◌}
use native.Mathlib.Omega.{arith}
use lib.ListN.{length}
use Rattle.ask.proofs.Answering.{copy_next, copy_all}
use Rattle.ask.proofs.put_forced.Goals as goal

pub loop-i-preserved : goal.loop-i-preserved
loop-i-preserved c =
    let h = c.loop-i-test.true in
    rw c.loop-i.invariant (copy_next c.loop-i.i c.args.marks.now c.args.out.now h (omega (arith, c.requires.1, h)))

pub returns : goal.returns
returns c =
    let all : c.loop-i.i ≡ length c.args.marks.now = omega (arith, c.loop-i-test.false, c.loop-i.auto.i-end) in
    c.loop-i.invariant ∙ copy_all _ _ _ all
