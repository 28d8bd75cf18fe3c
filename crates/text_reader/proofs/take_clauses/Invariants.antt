-- `text_reader::take_clauses` meets its contract. The loop's invariant is `Passing`, of `Passing.antt`, where each turn is proved.
-- Assumes nothing.
use mathlib.Core.Path.{◌≡◌}
use lib.ListN.{length}
use Rattle.text_reader.proofs.Passing.{Passing}
use Rattle.text_reader.proofs.take_clauses.Given as goal

abbrev pub invariant-loop-first : goal.invariant-loop-first
invariant-loop-first l =
    record { passing : Passing l.heading.variables l.heading.clauses l.heading.groups l.opened l.clauses l.rest l.line l.left l.length; words : length l.body ≡ 33 }

abbrev pub decreases-loop-first : goal.decreases-loop-first
decreases-loop-first l = length l.rest
