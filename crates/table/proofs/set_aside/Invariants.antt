-- `table::set_aside` meets its contract. The loop's invariant: only words behind levels and places have changed.
-- Assumes nothing.
use Rattle.lists.specs.Space.{Aside}
use Rattle.table.proofs.set_aside.Given as goal

abbrev pub invariant-loop : goal.invariant-loop
invariant-loop l = Aside l.book.variables l.book.clauses l.initial.work l.work
