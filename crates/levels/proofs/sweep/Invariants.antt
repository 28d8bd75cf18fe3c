-- `levels::sweep` meets its contract. The loop's invariant is `Sweeping`, of `Walks.antt`.
-- Assumes nothing.
use Rattle.book.specs.Clauses.{meant, clauses_left}
use Rattle.levels.proofs.Walks.{Sweeping}
use Rattle.levels.proofs.sweep.Given as goal

abbrev pub invariant-loop-clause : goal.invariant-loop-clause
invariant-loop-clause l = Sweeping (meant l.book) l.arrivals.kept l.arrivals.pool l.initial.levels l.levels (clauses_left l.clause-iterator) l.fell
