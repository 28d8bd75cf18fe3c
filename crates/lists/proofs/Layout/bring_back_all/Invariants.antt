-- `lists::Layout::bring_back_all` meets its contract. The loop's invariant: levels and places are unchanged, and what is left of the body are variables of the
-- book.
-- Assumes nothing.
use mathlib.Core.Path.{◌≡◌}
use mathlib.Core.Bool.{true}
use Rattle.field.specs.Words.{within}
use Rattle.field.specs.Left.{words_left}
use Rattle.lists.specs.Space.{Aside}
use Rattle.lists.proofs.Layout.bring_back_all.Given as goal

abbrev pub invariant-loop-variable : goal.invariant-loop-variable
invariant-loop-variable l =
    Aside l.self.variables l.self.clauses l.initial.work l.work × (within 1 l.self.variables (words_left l.variable-iterator) ≡ true)
