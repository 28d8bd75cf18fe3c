-- `table::reach_all` meets its contract. The loop's invariant: only words behind levels and places have changed.
-- Assumes nothing.
use Rattle.lists.specs.Space.{Aside}
use Rattle.table.proofs.reach_all.Given as goal

abbrev pub invariant-loop-number : goal.invariant-loop-number
invariant-loop-number l = Aside l.book.variables l.book.clauses l.initial.work l.work
