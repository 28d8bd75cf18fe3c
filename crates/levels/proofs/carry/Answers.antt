-- What `levels::carry` leaves open, from the laws.
-- Assumes nothing.
use mathlib.Core.Path.{◌≡◌, ◌∙◌}
use native.Mathlib.Omega.{arith}
use lib.ListN.{length}
use Rattle.levels.proofs.Carrying.{carry_next, carry_all}
use Rattle.levels.proofs.carry.Goals as goal

pub loop-level-preserved : goal.loop-level-preserved
loop-level-preserved c = carry_next _ _ _ _ _ c.loop-level-test.true c.loop-level.invariant c.carry_level.ensures

pub returns : goal.returns
returns c =
    let all : c.loop-level.level-index ≡ length c.args.levels.now = omega (arith, c.loop-level-test.false, c.loop-level.auto.level-index-end) in
    c.loop-level.invariant ∙ carry_all _ _ _ all
