-- `writer::put_clauses` meets its contract. The loop's invariant is `Copying`, of `Copying.antt`.
-- Assumes nothing.
use lib.ListN.{length}
use Rattle.writer.specs.Steps.{book_from}
use Rattle.writer.proofs.Copying.{Copying}
use Rattle.writer.proofs.put_clauses.Given as goal

abbrev pub invariant-loop-group : goal.invariant-loop-group
invariant-loop-group l = Copying l.variables (book_from l.plain).groups (book_from l.plain).clauses (length l.plain) l.initial.out l.out l.rest l.place l.at

abbrev pub decreases-loop-group : goal.decreases-loop-group
decreases-loop-group l = length l.rest
