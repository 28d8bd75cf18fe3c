-- What `table::lay_clauses` leaves open, from the laws.
use Prim.Native.Nat.{◌≤◌}
use mathlib.Core.Path.{◌∙◌}
use native.Mathlib.Omega.{arith}
use Rattle.book.specs.Clauses.{clause_is}
use Rattle.book.proofs.Walk.{is_book}
use Rattle.marks.specs.Fits.{Fits}
use Rattle.lists.proofs.Stores.{aside_as}
use Rattle.table.proofs.Places.{here_fits}
use Rattle.table.proofs.Laying.{laying_start, laying_here, laying_inside, laying_fits, laying_next}
use Rattle.table.proofs.lay_clauses.Goals as goal
use Rattle.table.proofs.lay_clauses.Goals.{After-first_clause-clause}

-- the clause at hand
fits : (c : After-first_clause-clause) → let v = c.of-layout.result.variables in let k = clause_is c.first_clause-clause.result in Fits v k × (k.head ≤ v)
fits c = let b = c.args.book.now in
    here_fits _ _ _ (laying_here _ _ _ _ _ c.loop-number.invariant c.loop-number-test.true) (is_book _ b.accepted) _ (c.of-layout.ensures.variables ∙ b.variables_are)
    _ c.first_clause-clause.ensures.clause

pub loop-number-init : goal.loop-number-init
loop-number-init c = laying_start _ _

pub slice_bounds-first_clause-count : goal.slice_bounds-first_clause-count
slice_bounds-first_clause-count c = (laying_inside _ _ _ _ _ c.loop-number.invariant).0

pub slice_bounds-first_clause-start : goal.slice_bounds-first_clause-start
slice_bounds-first_clause-start c = (laying_inside _ _ _ _ _ c.loop-number.invariant).0

pub first_clause-clause-requires : goal.first_clause-clause-requires
first_clause-clause-requires c = let k = (laying_here _ _ _ _ _ c.loop-number.invariant c.loop-number-test.true).stands in (k.long, k.fits)

pub overflow_cast-work : goal.overflow_cast-work
overflow_cast-work c = omega (arith, laying_inside _ _ _ _ _ c.loop-number.invariant)

pub begin-requires-clause-fits : goal.begin-requires-clause-fits
begin-requires-clause-fits c = (fits (goal.at.begin-requires-clause-fits c).After-first_clause-clause).0

pub begin-requires-clause-head : goal.begin-requires-clause-head
begin-requires-clause-head c = (fits (goal.at.begin-requires-clause-head c).After-first_clause-clause).1

pub size-place-requires : goal.size-place-requires
size-place-requires c = let l = c.loop-number.invariant in
    omega (arith, c.first_clause-clause.ensures.size, laying_inside _ _ _ _ _ l, laying_fits _ _ _ _ _ l c.loop-number-test.true)

pub overflow_add-place : goal.overflow_add-place
overflow_add-place c = let l = c.loop-number.invariant in
    omega (arith, c.size-place.ensures, c.first_clause-clause.ensures.size, laying_inside _ _ _ _ _ l, laying_fits _ _ _ _ _ l c.loop-number-test.true)

pub loop-number-preserved : goal.loop-number-preserved
loop-number-preserved c = let layout = c.of-layout.ensures in
    laying_next _ _ _ _ _ c.loop-number.invariant c.requires c.loop-number-test.true _ (omega (arith, c.entry.ensures, layout.variables))
    _ (c.size-place.ensures ∙ c.first_clause-clause.ensures.size) _ (aside_as _ _ _ _ _ _ layout.variables layout.clauses c.begin.ensures)
