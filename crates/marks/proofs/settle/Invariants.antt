-- `marks::settle` meets its contract. The loop's invariant: only variables that are forced are marked; the measure is how many are not marked.
-- Assumes nothing.
use Rattle.book.specs.Clauses.{meant}
use Rattle.meaning.specs.Marks.{Partly, unmarked}
use Rattle.marks.proofs.settle.Given as goal

abbrev pub invariant-loop : goal.invariant-loop
invariant-loop l = Partly (meant l.book) l.choice l.marks

abbrev pub decreases-loop : goal.decreases-loop
decreases-loop l = unmarked l.marks
