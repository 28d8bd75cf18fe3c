-- What `explain::transition` leaves open, from the laws.
use mathlib.Core.Path.{sym, ◌∙◌}
use native.Mathlib.Omega.{arith}
use Rattle.explain.proofs.Passes.{reach_start, reach_none, reach_here, reach_out, reach_low}
use Rattle.explain.proofs.transition.Goals as goal

pub loop-g-init : goal.loop-g-init
loop-g-init c = (reach_start _ _, omega arith)

pub has-requires : goal.has-requires
has-requires c = omega (arith, c.if-g-ge-MOST_GROUPS.false)

pub loop-g-smaller-else-level-g : goal.loop-g-smaller-else-level-g
loop-g-smaller-else-level-g c = omega (arith, c.if-g-ge-MOST_GROUPS.false)

pub loop-g-preserved-else-level-g : goal.loop-g-preserved-else-level-g
loop-g-preserved-else-level-g c = (c.loop-g.invariant.0 ∙ reach_low _ _ _ (omega (arith, c.if-g-ge-MOST_GROUPS.false)) (omega (arith, c.if-level-g.false)), omega (arith, c.if-g-ge-MOST_GROUPS.false))

pub loop-g-smaller : goal.loop-g-smaller
loop-g-smaller c = omega (arith, c.if-g-ge-MOST_GROUPS.false)

pub loop-g-preserved : goal.loop-g-preserved
loop-g-preserved c = (c.loop-g.invariant.0 ∙ reach_out _ _ _ (omega (arith, c.if-g-ge-MOST_GROUPS.false)) (sym c.has.ensures ∙ c.if-has.false), omega (arith, c.if-g-ge-MOST_GROUPS.false))

pub returns-then-g-ge-MOST_GROUPS : goal.returns-then-g-ge-MOST_GROUPS
returns-then-g-ge-MOST_GROUPS c = sym (c.loop-g.invariant.0 ∙ reach_none _ _ _ c.if-g-ge-MOST_GROUPS.true)

pub returns-then-level-g : goal.returns-then-level-g
returns-then-level-g c = sym (c.loop-g.invariant.0 ∙ reach_here _ _ _ (omega (arith, c.if-g-ge-MOST_GROUPS.false)) (sym c.has.ensures ∙ c.if-has.true) c.if-level-g.true)
