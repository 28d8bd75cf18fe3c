-- `levels::goal_turn` meets its contract.
-- Assumes nothing.
use mathlib.Core.Path.{◌∙◌}
use Rattle.levels.proofs.Turns.{goal_other, goal_own}
use Rattle.levels.proofs.goal_turn.Goals as goal

pub returns-then-clause-ne0 : goal.returns-then-clause-ne0
returns-then-clause-ne0 c = goal_other _ _ _ _ _ c.if-clause-ne0.true

pub returns : goal.returns
returns c = c.clause_level.ensures ∙ goal_own _ _ _ _ _ c.if-clause-ne0.false
