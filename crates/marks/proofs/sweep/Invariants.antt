-- `marks::sweep` meets its contract. The loop's invariant is `Sweeping`, of `Walks.antt`.
-- Assumes nothing.
use Rattle.book.specs.Clauses.{meant, clauses_left}
use Rattle.marks.proofs.Walks.{Sweeping}
use Rattle.marks.proofs.sweep.Given as goal

abbrev pub invariant-loop-clause : goal.invariant-loop-clause
invariant-loop-clause l = Sweeping (meant l.book) l.choice l.initial.marks l.marks (clauses_left l.clause-iterator) l.n
