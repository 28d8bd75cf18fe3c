-- What `writer::put_clauses` leaves open, from the laws.
use Prim.Native.Nat.{◌+◌}
use mathlib.Core.Path.{◌≡◌, sym, ap}
use native.Mathlib.Omega.{arith}
use lib.ListN.{length}
use lib.Seq.{length-take-le}
use mir.Syntax.{w32}
use mir.Val.{SFits}
use Rattle.std.proofs.Common.{rules}
use Rattle.std.proofs.lemmas.Int.{to_z-of_z}
use Rattle.answer.specs.Answer.{answered}
use Rattle.field.proofs.Parts.{part_shorter}
use Rattle.plain.specs.Taking.{literals_at}
use Rattle.writer.specs.Steps.{scan_of, book_from}
use Rattle.writer.proofs.Copying.{Copy, copy, copy_scanned, copy_room, copy_next, copy_last, copy_end}
use Rattle.writer.proofs.Whole.{Ready, ready}
use Rattle.writer.proofs.put_clauses.Goals as goal
use Rattle.writer.proofs.put_clauses.Goals.{Start, After-scan_clause, After-unwrap-scanned}

-- the plain form is taken, so writing can begin
begin : (c : Start) → Ready c.args.plain.now c.args.variables c.args.out.now
begin c = ready _ _ _ c.requires.plain c.requires.variables_value

-- what the scan found, and the clause at hand
found : (c : After-unwrap-scanned) → answered c.unwrap-scanned.result ≡ scan_of 0 (literals_at c.args.variables 0 0 0 (c.loop-group.place + 1) c.in-Some.literals.now)
found c = rw c.unwrap-scanned.ensures at c.scan_clause.ensures

at : (c : After-unwrap-scanned)
    → Copy c.args.variables (book_from c.args.plain.now).groups c.in-Some.group.now c.in-Some.literals.now c.loop-group.place c.loop-group.invariant.left c.unwrap-scanned.result
at c = copy _ _ _ _ _ _ c.loop-group.rest.now _ _ c.loop-group.invariant _ _ c.in-Some.ensures.cases.0 _ (found c)

pub slice_bounds-rest-count : goal.slice_bounds-rest-count
slice_bounds-rest-count c = omega (arith, (begin (goal.at.slice_bounds-rest-count c).Start).long)

pub slice_bounds-rest-start : goal.slice_bounds-rest-start
slice_bounds-rest-start c = omega (arith, (begin (goal.at.slice_bounds-rest-start c).Start).long)

pub loop-group-init : goal.loop-group-init
loop-group-init c = (begin (goal.at.loop-group-init c).Start).start

pub unwrap-scanned-requires : goal.unwrap-scanned-requires
unwrap-scanned-requires c =
    let k = copy_scanned _ _ _ _ _ _ c.loop-group.rest.now _ _ c.loop-group.invariant _ _ c.in-Some.ensures.cases.0 _ c.scan_clause.ensures in
    simp k.1

pub overflow_sub-rest : goal.overflow_sub-rest
overflow_sub-rest c = let k = at (goal.at.overflow_sub-rest c).After-unwrap-scanned in omega (arith, k.above, k.inside, ap length c.in-Some.ensures.cases.0)

pub offset_bounds-rest-scanned : goal.offset_bounds-rest-scanned
offset_bounds-rest-scanned c = let k = at (goal.at.offset_bounds-rest-scanned c).After-unwrap-scanned in
    omega (arith, k.above, k.inside, ap length c.in-Some.ensures.cases.0, c.loop-group.invariant.place, c.well_formed)

pub slice_bounds-rest-count-in-Some : goal.slice_bounds-rest-count-in-Some
slice_bounds-rest-count-in-Some c = let k = at (goal.at.slice_bounds-rest-count-in-Some c).After-unwrap-scanned in omega (arith, k.above, k.inside, ap length c.in-Some.ensures.cases.0)

pub slice_bounds-rest-start-in-Some : goal.slice_bounds-rest-start-in-Some
slice_bounds-rest-start-in-Some c = let k = at (goal.at.slice_bounds-rest-start-in-Some c).After-unwrap-scanned in omega (arith, k.above, k.inside, ap length c.in-Some.ensures.cases.0)

pub slice_bounds-body-end : goal.slice_bounds-body-end
slice_bounds-body-end c = let k = at (goal.at.slice_bounds-body-end c).After-unwrap-scanned in sym (length-take-le _ _ (omega (arith, k.long)))

pub put_clause-at-requires : goal.put_clause-at-requires
put_clause-at-requires c =
    let a = (goal.at.put_clause-at-requires c).After-unwrap-scanned in
    let k = at a in
    record {
      body_len_bound = simp c.from.ensures (omega (arith, length-take-le _ _ k.long, k.few));
      body_in_bounds = simp c.from.ensures (copy_room _ _ _ _ _ _ c.loop-group.rest.now _ _ c.loop-group.invariant _ _ c.in-Some.ensures.cases.0 _ (found a) c.requires.plain_in_bounds);
    }

pub loop-group-smaller : goal.loop-group-smaller
loop-group-smaller c = let k = at (goal.at.loop-group-smaller c).After-unwrap-scanned in
    part_shorter c.loop-group.rest.now _ (omega (arith, k.above)) (omega (arith, k.above, k.inside, ap length c.in-Some.ensures.cases.0))

pub loop-group-preserved : goal.loop-group-preserved
loop-group-preserved c =
    let f : SFits w32 c.in-Some.group.now = search rules in
    copy_next _ _ _ _ _ _ c.loop-group.rest.now _ _ c.loop-group.invariant _ _ c.in-Some.ensures.cases.0 _ (found (goal.at.loop-group-preserved c).After-unwrap-scanned) _ _
    (simp (c.from.ensures, c.amount.ensures, to_z-of_z) at c.put_clause-at.ensures)

pub put_front-requires : goal.put_front-requires
put_front-requires c = copy_last _ _ _ _ _ _ _ _ _ c.loop-group.invariant c.in_default.ensures.cases c.requires.plain_in_bounds

pub returns : goal.returns
returns c = copy_end _ _ _ _ _ _ _ _ _ c.loop-group.invariant c.in_default.ensures.cases _ _ c.put_front.ensures
