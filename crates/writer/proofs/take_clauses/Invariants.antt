-- `writer::take_clauses` meets its contract. The loop's invariant is `Passing`, of `Passing.antt`, where each turn is proved.
-- Assumes nothing.
use lib.ListN.{length}
use Rattle.writer.proofs.Passing.{Passing}
use Rattle.writer.proofs.take_clauses.Given as goal

abbrev pub invariant-loop-group : goal.invariant-loop-group
invariant-loop-group l = Passing l.variables l.groups l.clauses l.rest l.place l.left l.length

abbrev pub decreases-loop-group : goal.decreases-loop-group
decreases-loop-group l = length l.rest
