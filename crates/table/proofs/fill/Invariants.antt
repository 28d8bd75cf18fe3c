-- `table::fill` meets its contract. The loop's invariant: the first i variables have no level yet.
-- Assumes nothing.
use Rattle.table.specs.Table.{Fresh}
use Rattle.table.proofs.fill.Given as goal

abbrev pub invariant-loop-i : goal.invariant-loop-i
invariant-loop-i l = Fresh l.i l.layout.variables l.layout.clauses l.initial.work l.work
