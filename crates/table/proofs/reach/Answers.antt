-- `table::reach` meets its contract: the table has the place of the clause, so what stands there is one of the book's.
-- Assumes nothing.
use Prim.Native.Nat.{◌≤◌}
use mathlib.Core.Path.{◌∙◌}
use native.Mathlib.Omega.{arith}
use lib.ListN.{get_or}
use Rattle.book.specs.Clauses.{clause_is}
use Rattle.book.proofs.Walk.{is_book}
use Rattle.marks.specs.Fits.{Fits}
use Rattle.table.specs.Table.{Placed}
use Rattle.table.proofs.Places.{place_inside, Here, here_fits, laid_place, laid_here}
use Rattle.table.proofs.reach.Goals as goal
use Rattle.table.proofs.reach.Goals.{After-entry, After-first_clause-clause}

place : (c : After-entry) → Placed c.args.book.now.bytes.now (get_or c.args.work.now c.entry.result 0) c.args.number
place c = laid_place c.args.book.now _ _ _ c.requires.0 c.requires.1 (omega (arith, c.entry.ensures, c.of-layout.ensures.variables))

-- the clause there
at_hand : (c : After-entry) → Here c.args.book.now.bytes.now (get_or c.args.work.now c.entry.result 0) c.args.number
at_hand c = laid_here c.args.book.now _ _ _ c.requires.0 c.requires.1 (omega (arith, c.entry.ensures, c.of-layout.ensures.variables))

fits : (c : After-first_clause-clause) → let v = c.of-layout.result.variables in let k = clause_is c.first_clause-clause.result in Fits v k × (k.head ≤ v)
fits c = let b = c.args.book.now in
    here_fits _ _ _ (laid_here b _ _ _ c.requires.0 c.requires.1 (omega (arith, c.entry.ensures, c.of-layout.ensures.variables))) (is_book _ b.accepted) _
    (c.of-layout.ensures.variables ∙ b.variables_are) _ c.first_clause-clause.ensures.clause

pub slice_bounds-first_clause-count : goal.slice_bounds-first_clause-count
slice_bounds-first_clause-count c = place_inside _ _ c.args.number (place (goal.at.slice_bounds-first_clause-count c).After-entry)

pub slice_bounds-first_clause-start : goal.slice_bounds-first_clause-start
slice_bounds-first_clause-start c = place_inside _ _ c.args.number (place (goal.at.slice_bounds-first_clause-start c).After-entry)

pub first_clause-clause-requires : goal.first_clause-clause-requires
first_clause-clause-requires c = let k = (at_hand (goal.at.first_clause-clause-requires c).After-entry).stands in (k.long, k.fits)

pub is_aside-requires : goal.is_aside-requires
is_aside-requires c = ((fits (goal.at.is_aside-requires c).After-first_clause-clause).1, c.requires.0.room)

pub bring_back_all-requires : goal.bring_back_all-requires
bring_back_all-requires c = ((fits (goal.at.bring_back_all-requires c).After-first_clause-clause).0.body, c.requires.0.room)
