-- `marks::is_broken` meets its contract.
-- Assumes nothing.
use mathlib.Core.Path.{sym, ap, ◌∙◌}
use Rattle.std.specs.Prelude.{is_none}
use Rattle.marks.proofs.Tests.{flipped, unbroken_head, unbroken_off, broken_if}
use Rattle.marks.proofs.is_broken.Goals as goal

pub returns-then-clause-ne0 : goal.returns-then-clause-ne0
returns-then-clause-ne0 c = unbroken_head _ _ _ c.if-clause-ne0.true

pub returns-then-not-in_force : goal.returns-then-not-in_force
returns-then-not-in_force c = unbroken_off _ _ _ (sym c.in_force.ensures ∙ c.if-not-in_force.true)

pub returns : goal.returns
returns c =
    flipped _ _ c.is_none.ensures ∙ ap is_none c.first_unmarked.ensures
    ∙ broken_if _ _ _ c.requires.body c.if-clause-ne0.false (sym c.in_force.ensures ∙ c.if-not-in_force.false)
