-- `marks::is_chosen` meets its contract.
-- Assumes nothing.
use mathlib.Core.Path.{◌∙◌}
use Rattle.marks.proofs.Tests.{is_core, is_group_lem}
use Rattle.marks.proofs.is_chosen.Goals as goal

pub returns-then-group-eq0 : goal.returns-then-group-eq0
returns-then-group-eq0 c = is_core _ _ c.if-group-eq0.true

pub returns : goal.returns
returns c = c.has.ensures ∙ is_group_lem _ _ c.if-group-eq0.false
