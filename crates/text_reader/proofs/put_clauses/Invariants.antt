-- `text_reader::put_clauses` meets its contract. The loop's invariant is `Copying`, of `Copying.antt`, where each turn is proved.
-- Assumes nothing.
use mathlib.Core.Path.{◌≡◌}
use lib.ListN.{length}
use Rattle.text_reader.specs.Steps.{clauses_of}
use Rattle.text_reader.proofs.Copying.{Copying}
use Rattle.text_reader.proofs.put_clauses.Given as goal

abbrev pub invariant-loop-first : goal.invariant-loop-first
invariant-loop-first l =
    record { copying : Copying l.variables l.groups (clauses_of l.variables l.groups l.clauses) l.initial.out l.out l.rest l.left l.at; words : length l.body ≡ 33 }

abbrev pub decreases-loop-first : goal.decreases-loop-first
decreases-loop-first l = length l.rest
