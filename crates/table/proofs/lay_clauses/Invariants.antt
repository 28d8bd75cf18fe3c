-- `table::lay_clauses` meets its contract. The loop's invariant is `Laying`, of `Laying.antt`.
-- Assumes nothing.
use Rattle.table.proofs.Laying.{Laying}
use Rattle.table.proofs.lay_clauses.Given as goal

abbrev pub invariant-loop-number : goal.invariant-loop-number
invariant-loop-number l = Laying l.book l.initial.work l.work l.place l.number
