-- `line::number_in` meets its contract. The loop's invariant is `Reading`, of `Spelling.antt`.
-- Assumes nothing.
use Rattle.line.proofs.Spelling.{Reading}
use Rattle.line.proofs.number_in.Given as goal

abbrev pub invariant-loop-byte : goal.invariant-loop-byte
invariant-loop-byte l = Reading l.token l.n l.byte-index
