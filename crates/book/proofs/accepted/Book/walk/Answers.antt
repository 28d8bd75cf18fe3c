-- A walk begins past the header, with all clauses of the book left.
-- Assumes nothing.
use native.Mathlib.Omega.{arith}
use Rattle.field.proofs.Parts.{part_end}
use Rattle.book.proofs.Walk.{Begun, begun, is_book, left_walk}
use Rattle.book.proofs.accepted.Book.walk.Goals as goal
use Rattle.book.proofs.accepted.Book.walk.Goals.{Start}

start : (c : Start) → Begun c.args.self.now.bytes.now
start c = begun _ (is_book _ c.args.self.now.accepted)

pub slice_bounds-result-count : goal.slice_bounds-result-count
slice_bounds-result-count c = omega (arith, (start (goal.at.slice_bounds-result-count c).Start).long)

pub slice_bounds-result-start : goal.slice_bounds-result-start
slice_bounds-result-start c = omega (arith, (start (goal.at.slice_bounds-result-start c).Start).long)

pub invariant_of-result : goal.invariant_of-result
invariant_of-result c = record { walks = (left_walk _ _ _ _ (start (goal.at.invariant_of-result c).Start).walk).1 }

pub returns-clause-left : goal.returns-clause-left
returns-clause-left c = (left_walk _ _ _ _ (start (goal.at.returns-clause-left c).Start).walk).0

pub returns-clause-rest : goal.returns-clause-rest
returns-clause-rest c = part_end c.args.self.now.bytes.now 7
