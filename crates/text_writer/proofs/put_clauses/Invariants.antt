-- `text_writer::put_clauses` meets its contract. The loop's invariant is `Filling`, of book.
-- Assumes nothing.
use Rattle.book.specs.Clauses.{meant, clauses_left}
use Rattle.book.proofs.Walks.{Filling}
use Rattle.text.specs.Writing.{clauses_text}
use Rattle.text_writer.proofs.put_clauses.Given as goal

abbrev pub invariant-loop-clause : goal.invariant-loop-clause
invariant-loop-clause l = Filling clauses_text l.at (meant l.book).clauses l.initial.out (clauses_left l.clause-iterator) l.out l.i
