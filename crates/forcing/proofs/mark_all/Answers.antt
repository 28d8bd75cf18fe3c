-- What `forcing::mark_all` leaves open, from the laws.
-- Assumes nothing.
use mathlib.Core.Path.{◌≡◌, ◌∙◌}
use native.Mathlib.Omega.{arith}
use lib.ListN.{length}
use Rattle.forcing.proofs.Marking.{mark_next, mark_all}
use Rattle.forcing.proofs.mark_all.Goals as goal

pub loop-level-preserved : goal.loop-level-preserved
loop-level-preserved c = mark_next _ _ _ _ _ c.loop-level-test.true c.loop-level.invariant c.mark_of.ensures

pub returns : goal.returns
returns c =
    let all : c.loop-level.level-index ≡ length c.args.levels.now = omega (arith, c.loop-level-test.false, c.loop-level.auto.level-index-end) in
    c.loop-level.invariant ∙ mark_all _ _ _ all
