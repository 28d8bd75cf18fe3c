-- `queue::turn::Turn::of` meets its contract: the table has the place of the clause, so what stands there is the one with the number.
-- Assumes nothing.
use mathlib.Core.Path.{◌∙◌}
use native.Mathlib.Omega.{arith}
use lib.ListN.{get_or}
use Rattle.book.proofs.Walk.{is_book}
use Rattle.table.specs.Table.{Laid}
use Rattle.table.proofs.Places.{place_inside, Here, here_first, here_fits, laid_place, laid_here}
use Rattle.table.proofs.Stores.{sized, laid}
use Rattle.queue.proofs.turn.Turn.of.Goals as goal
use Rattle.queue.proofs.turn.Turn.of.Goals.{After-entry}

table : (c : After-entry) → let b = c.args.book.now in Laid b.bytes.now b.variables b.clauses c.args.work.now
table c = laid _ _ _ (sized c.args.book.now) _ _ _ c.requires.1

-- the clause there
at_hand : (c : After-entry) → Here c.args.book.now.bytes.now (get_or c.args.work.now c.entry.result 0) c.args.number
at_hand c = laid_here c.args.book.now _ _ _ (table c) c.requires.0 (omega (arith, c.entry.ensures, c.of-layout.ensures.variables))

pub slice_bounds-first_clause-count : goal.slice_bounds-first_clause-count
slice_bounds-first_clause-count c =
    let a = (goal.at.slice_bounds-first_clause-count c).After-entry in
    place_inside _ _ c.args.number (laid_place c.args.book.now _ _ _ (table a) c.requires.0 (omega (arith, c.entry.ensures, c.of-layout.ensures.variables)))

pub slice_bounds-first_clause-start : goal.slice_bounds-first_clause-start
slice_bounds-first_clause-start c =
    let a = (goal.at.slice_bounds-first_clause-start c).After-entry in
    place_inside _ _ c.args.number (laid_place c.args.book.now _ _ _ (table a) c.requires.0 (omega (arith, c.entry.ensures, c.of-layout.ensures.variables)))

pub first_clause-requires : goal.first_clause-requires
first_clause-requires c = let k = (at_hand (goal.at.first_clause-requires c).After-entry).stands in (k.long, k.fits)

pub invariant_of-result : goal.invariant_of-result
invariant_of-result c =
    let b = c.args.book.now in
    let k = here_fits _ _ _ (at_hand (goal.at.invariant_of-result c).After-entry) (is_book _ b.accepted) _ (c.of-layout.ensures.variables ∙ b.variables_are) _ c.first_clause.ensures.clause in
    record { numbered = omega (arith, c.requires.0, c.of-layout.ensures.clauses); fits = k.0; head = k.1 }

pub returns-clause-stands : goal.returns-clause-stands
returns-clause-stands c = here_first _ _ _ (at_hand (goal.at.returns-clause-stands c).After-entry) _ c.first_clause.ensures.clause
