-- `levels::goal_level` meets its contract: the settled levels, and the least level of the goals.
-- Assumes nothing.
use Rattle.book.proofs.Walk.{found}
use Rattle.marks.proofs.Walks.{heads}
use Rattle.levels.proofs.Walks.{goal_level_lem}
use Rattle.levels.proofs.Carrying.{settled_settling}
use Rattle.levels.proofs.goal_level.Goals as goal

pub returns : goal.returns
returns c = let w = c.settle.ensures in (
  goal_level_lem _ _ _ _ _ c.requires.apart w c.least_goal.ensures,
  settled_settling _ _ _ _ (heads _ (found c.args.book.now)) w,
)
