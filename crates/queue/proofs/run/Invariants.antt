-- `queue::run` meets its contract. The loop's invariant: the space is kept.
-- Assumes nothing.
use Rattle.table.specs.Table.{Kept}
use Rattle.queue.proofs.run.Given as goal

abbrev pub invariant-loop : goal.invariant-loop
invariant-loop l = Kept l.book.bytes.now l.arrivals.kept l.arrivals.pool l.initial.work l.work
