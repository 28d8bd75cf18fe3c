-- `reader::put_clauses` meets its contract. The loop's invariant is `Filling`, of book.
-- Assumes nothing.
use Rattle.book.specs.Clauses.{meant, clauses_left}
use Rattle.book.proofs.Walks.{Filling}
use Rattle.plain.specs.Plain.{plain_clauses}
use Rattle.reader.proofs.put_clauses.Given as goal

abbrev pub invariant-loop-clause : goal.invariant-loop-clause
invariant-loop-clause l = Filling plain_clauses 2 (meant l.book).clauses l.initial.out (clauses_left l.clause-iterator) l.out l.at
