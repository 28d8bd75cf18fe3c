-- `lists::Layout::move_all` meets its contract. The loop's invariant: only lists have changed.
-- Assumes nothing.
use Rattle.lists.specs.Space.{Aside}
use Rattle.lists.proofs.Layout.move_all.Given as goal

abbrev pub invariant-loop : goal.invariant-loop
invariant-loop l = Aside l.self.variables l.self.clauses l.initial.work l.work
