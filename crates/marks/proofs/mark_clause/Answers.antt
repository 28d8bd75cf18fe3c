-- `marks::mark_clause` meets its contract: at each `return` the tests that led there say what the clause adds.
-- Assumes nothing.
use mathlib.Core.Path.{sym, ap, ◌∙◌}
use native.Mathlib.Omega.{arith}
use Rattle.std.specs.Prelude.{is_some}
use Rattle.meaning.proofs.Marks.{first_some}
use Rattle.marks.proofs.Tests.{all_marked, clause_goal, clause_old, clause_not, clause_new, named_some, one_less, unnamed}
use Rattle.marks.proofs.mark_clause.Goals as goal

pub returns-then-clause-eq0-clause-marks : goal.returns-then-clause-eq0-clause-marks
returns-then-clause-eq0-clause-marks c = clause_goal _ _ _ c.if-clause-eq0.true

pub returns-then-marks-h-eq1-clause-marks : goal.returns-then-marks-h-eq1-clause-marks
returns-then-marks-h-eq1-clause-marks c = clause_old _ _ _ c.if-clause-eq0.false c.if-marks-h-eq1.true

pub returns-then-is_some-clause-marks : goal.returns-then-is_some-clause-marks
returns-then-is_some-clause-marks c = clause_not _ _ _ (first_some _ _ (named_some _ (sym (ap is_some c.first_unmarked.ensures) ∙ sym c.is_some.ensures ∙ c.if-is_some.true)))

pub returns-clause-marks : goal.returns-clause-marks
returns-clause-marks c =
    clause_new _ _ _ c.if-clause-eq0.false (sym c.in_force.ensures ∙ c.if-not-in_force.false)
    (all_marked _ _ _ c.requires.fits.body (unnamed _ (sym (ap is_some c.first_unmarked.ensures) ∙ sym c.is_some.ensures ∙ c.if-is_some.false)))

pub returns-clause-count : goal.returns-clause-count
returns-clause-count c = one_less _ _ (omega (arith, c.requires.head, c.if-clause-eq0.false)) c.if-marks-h-eq1.false
