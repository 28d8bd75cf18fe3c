-- `book::count_clauses` meets its contract. The loop's invariant is `Passed`, of `Counting.antt`, where each turn is proved; the measure is the
-- room that is left for clauses.
-- Assumes nothing.
use Rattle.book.proofs.Counting.{Passed}
use Rattle.book.proofs.count_clauses.Given as goal

abbrev pub invariant-loop-size : goal.invariant-loop-size
invariant-loop-size l = Passed l.header.variables l.header.groups l.bytes l.rest l.place l.left

abbrev pub decreases-loop-size : goal.decreases-loop-size
decreases-loop-size l = l.left
