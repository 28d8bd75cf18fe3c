-- `explain::smallest_within` meets its contract. The loop's invariant is `Inserting`, of `Passes.antt`, with a working space that is ready; the level falls.
-- Assumes nothing.
use Rattle.book.specs.Clauses.{meant}
use Rattle.table.specs.Table.{Kept}
use Rattle.explain.proofs.Passes.{Inserting}
use Rattle.explain.proofs.smallest_within.Given as goal

abbrev pub invariant-loop-level : goal.invariant-loop-level
invariant-loop-level l = Kept l.book.bytes.now l.now.kept l.now.pool l.initial.work l.work × Inserting (meant l.book) l.choice l.now.kept l.now.pool l.level

abbrev pub decreases-loop-level : goal.decreases-loop-level
decreases-loop-level l = l.level
