-- `text_reader::open_text` meets its contract. The loop's invariant is `Seeking`, of `Openings.antt`, where each turn is proved.
-- Assumes nothing.
use lib.ListN.{length}
use Rattle.text_reader.proofs.Openings.{Seeking}
use Rattle.text_reader.proofs.open_text.Given as goal

abbrev pub invariant-loop-first : goal.invariant-loop-first
invariant-loop-first l = Seeking l.text l.rest l.line

abbrev pub decreases-loop-first : goal.decreases-loop-first
decreases-loop-first l = length l.rest
