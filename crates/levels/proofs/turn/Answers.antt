-- `levels::turn` meets its contract: the head's level becomes the lower of the two.
-- Assumes nothing.
use native.Mathlib.Omega.{arith}
use Rattle.levels.proofs.Turns.{clause_none, clause_some, turn_less}
use Rattle.levels.proofs.turn.Goals as goal

pub returns-then-clause-eq0-clause-levels : goal.returns-then-clause-eq0-clause-levels
returns-then-clause-eq0-clause-levels c = clause_none _ _ _ _ c.if-clause-eq0.true

pub returns-clause-levels : goal.returns-clause-levels
returns-clause-levels c = clause_some _ _ _ _ _ c.if-clause-eq0.false c.clause_level-level.ensures

pub returns-clause-fell : goal.returns-clause-fell
returns-clause-fell c = turn_less _ _ _ (omega (arith, c.requires.head, c.if-clause-eq0.false)) (omega (arith, c.clause_level-level.ensures))
