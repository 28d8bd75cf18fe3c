-- What `levels::groups_level` leaves open, from the laws.
-- Assumes nothing.
use Prim.Native.Nat.{max}
use mathlib.Core.Path.{sym, ap, ◌∙◌}
use Rattle.marks.proofs.Tests.{within_first}
use Rattle.levels.proofs.Turns.{greatest_none, greatest_next}
use Rattle.levels.proofs.groups_level.Goals as goal

pub group_level-requires : goal.group_level-requires
group_level-requires c = (within_first _ _ _ c.in-Some.ensures.steps _ _ c.loop-group.invariant.1).1

pub loop-group-preserved : goal.loop-group-preserved
loop-group-preserved c = (
  c.loop-group.invariant.0 ∙ greatest_next _ _ _ c.in-Some.ensures.steps _ _ _ (c.max-most.ensures ∙ ap (max _) c.group_level.ensures),
  (within_first _ _ _ c.in-Some.ensures.steps _ _ c.loop-group.invariant.1).2,
)

pub returns : goal.returns
returns c = sym (c.loop-group.invariant.0 ∙ greatest_none _ _ _ c.in-None.ensures.steps.0)
