-- `levels::Arrivals::group_level` meets its contract.
-- Assumes nothing.
use mathlib.Core.Path.{sym, ◌∙◌}
use mathlib.Core.Bool.{true, false}
use Rattle.levels.proofs.Turns.{level_core, level_kept, level_other}
use Rattle.levels.proofs.arrivals.Arrivals.group_level.Goals as goal

pub returns-then-group-eq0 : goal.returns-then-group-eq0
returns-then-group-eq0 c = level_core _ _ _ c.if-group-eq0.true

pub returns-then-has : goal.returns-then-has
returns-then-has c = level_kept _ _ _ c.if-group-eq0.false (sym c.has.ensures ∙ c.if-has.true)

pub returns-then-has-2 : goal.returns-then-has-2
returns-then-has-2 c = level_other _ _ _ true c.if-group-eq0.false (sym c.has.ensures ∙ c.if-has.false) (sym c.has-2.ensures ∙ c.if-has-2.true)

pub returns : goal.returns
returns c = level_other _ _ _ false c.if-group-eq0.false (sym c.has.ensures ∙ c.if-has.false) (sym c.has-2.ensures ∙ c.if-has-2.false)
