-- `levels::least_goal` meets its contract. The loop's invariant is `Seeking`, of `Walks.antt`.
-- Assumes nothing.
use Rattle.book.specs.Clauses.{meant, clauses_left}
use Rattle.levels.proofs.Walks.{Seeking}
use Rattle.levels.proofs.least_goal.Given as goal

abbrev pub invariant-loop-clause : goal.invariant-loop-clause
invariant-loop-clause l = Seeking (meant l.book) l.arrivals.kept l.arrivals.pool l.levels (clauses_left l.clause-iterator) l.least
