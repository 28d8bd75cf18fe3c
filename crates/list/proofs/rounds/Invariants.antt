-- `list::rounds` meets its contract: one record after the other, while a seed and a round remain.
-- Assumes nothing.
use Prim.Native.Nat.{◌-◌}
use Rattle.book.specs.Clauses.{meant}
use Rattle.seek.specs.Paths.{sought_is}
use Rattle.list.proofs.Adding.{Going}
use Rattle.list.proofs.rounds.Given as goal

abbrev pub invariant-loop-sought : goal.invariant-loop-sought
invariant-loop-sought l = Going (meant l.book) l.initial.records l.count l.most l.records l.written (sought_is l.sought)

abbrev pub decreases-loop-sought : goal.decreases-loop-sought
decreases-loop-sought l = l.most - l.written
