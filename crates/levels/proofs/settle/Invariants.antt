-- `levels::settle` meets its contract. The loop's invariant: at each threshold only variables that are forced have so low a level; the measure is the sum of the levels.
-- Assumes nothing.
use mathlib.Core.Path.{◌≡◌}
use lib.ListN.{length}
use Rattle.book.specs.Clauses.{meant}
use Rattle.levels.specs.Levels.{total, Settling}
use Rattle.levels.proofs.settle.Given as goal

abbrev pub invariant-loop-arrivals : goal.invariant-loop-arrivals
invariant-loop-arrivals l = (length l.levels ≡ (meant l.book).variables) × Settling (meant l.book) l.arrivals.kept l.arrivals.pool l.levels

abbrev pub decreases-loop-arrivals : goal.decreases-loop-arrivals
decreases-loop-arrivals l = total l.levels
