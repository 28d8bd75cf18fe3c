-- What `writer::take_clauses` leaves open, from the laws.
use mathlib.Core.Path.{◌≡◌}
use native.Mathlib.Omega.{arith}
use mir.Syntax.{w32}
use mir.Val.{SFits}
use Rattle.std.proofs.Common.{rules}
use Rattle.std.proofs.lemmas.Int.{to_z-of_z}
use Rattle.std.proofs.lemmas.Result.{err_from_is_err_and}
use Rattle.answer.specs.Answer.{answered}
use Rattle.field.proofs.Parts.{part_shorter}
use Rattle.plain.specs.Taking.{number_at}
use Rattle.writer.proofs.Passing.{passing_start, passing_done, passing_full, passing_bad, passing_wrong, Next, passing_next}
use Rattle.writer.proofs.take_clauses.Goals as goal
use Rattle.writer.proofs.take_clauses.Goals.{In_ok-number_within, In_ok-scanned}

-- the group, and what the clause that was closed says
group : (c : In_ok-number_within) → answered c.in_ok-number_within.field-0 ≡ number_at 0 c.args.groups c.loop-group.place c.in-Some.group.now
group c = let f : SFits w32 c.in-Some.group.now = search rules in rw to_z-of_z at c.in_ok-number_within.ensures

next : (c : In_ok-scanned) → (ok : answered c.in_ok-number_within.field-0 ≡ number_at 0 c.args.groups c.loop-group.place c.in-Some.group.now)
    → Next c.args.variables c.args.groups c.args.clauses.now c.loop-group.rest.now c.loop-group.place c.loop-group.left c.loop-group.length c.loop-group.invariant
    c.in-Some.group.now c.in-Some.literals.now c.in-Some.ensures.cases.0 c.if-left-eq0.false c.in_ok-number_within.field-0 ok c.in_ok-scanned.scanned
next c ok = passing_next _ _ _ _ _ _ _ c.loop-group.invariant _ _ c.in-Some.ensures.cases.0 c.if-left-eq0.false _ ok _ c.in_ok-scanned.ensures

pub loop-group-init : goal.loop-group-init
loop-group-init c = passing_start _ _ _

pub returns-then-left-eq0 : goal.returns-then-left-eq0
returns-then-left-eq0 c = simp (c.at.ensures.0, c.at.ensures.1) (passing_full _ _ _ _ _ _ _ c.loop-group.invariant _ _ c.in-Some.ensures.cases.0 c.if-left-eq0.true)

pub returns-in_err-number_within : goal.returns-in_err-number_within
returns-in_err-number_within c =
    let f : SFits w32 c.in-Some.group.now = search rules in
    let p = err_from_is_err_and c.from_residual.result c.from_residual.ensures.1 in
    rw (p.1, p.2) (passing_bad _ _ _ _ _ _ _ c.loop-group.invariant _ _ c.in-Some.ensures.cases.0 c.if-left-eq0.false _ _ (rw to_z-of_z at c.in_err-number_within.ensures))

pub returns-in_err-scanned : goal.returns-in_err-scanned
returns-in_err-scanned c =
    let r = c.from_residual-in_err-scanned in
    let p = err_from_is_err_and r.result r.ensures.1 in
    rw (p.1, p.2)
    (passing_wrong _ _ _ _ _ _ _ c.loop-group.invariant _ _ c.in-Some.ensures.cases.0 c.if-left-eq0.false _ (group (goal.at.returns-in_err-scanned c).In_ok-number_within) _ _ c.in_err-scanned.ensures)

pub overflow_sub-rest : goal.overflow_sub-rest
overflow_sub-rest c = let k = next (goal.at.overflow_sub-rest c).In_ok-scanned (group (goal.at.overflow_sub-rest c).In_ok-number_within) in omega (arith, k.above)

pub offset_bounds-rest-scanned : goal.offset_bounds-rest-scanned
offset_bounds-rest-scanned c =
    let k = next (goal.at.offset_bounds-rest-scanned c).In_ok-scanned (group (goal.at.offset_bounds-rest-scanned c).In_ok-number_within) in
    omega (arith, k.inside, c.loop-group.invariant.place)

pub slice_bounds-rest-count : goal.slice_bounds-rest-count
slice_bounds-rest-count c =
    let k = next (goal.at.slice_bounds-rest-count c).In_ok-scanned (group (goal.at.slice_bounds-rest-count c).In_ok-number_within) in
    omega (arith, k.inside)

pub slice_bounds-rest-start : goal.slice_bounds-rest-start
slice_bounds-rest-start c =
    let k = next (goal.at.slice_bounds-rest-start c).In_ok-scanned (group (goal.at.slice_bounds-rest-start c).In_ok-number_within) in
    omega (arith, k.inside)

pub loop-group-smaller : goal.loop-group-smaller
loop-group-smaller c =
    let k = next (goal.at.loop-group-smaller c).In_ok-scanned (group (goal.at.loop-group-smaller c).In_ok-number_within) in
    part_shorter c.loop-group.rest.now _ (omega (arith, k.above)) (omega (arith, k.above, k.inside))

pub loop-group-preserved : goal.loop-group-preserved
loop-group-preserved c = simp c.from.ensures (next (goal.at.loop-group-preserved c).In_ok-scanned (group (goal.at.loop-group-preserved c).In_ok-number_within)).next

pub returns : goal.returns
returns c = passing_done _ _ _ _ _ _ _ c.loop-group.invariant c.in_default.ensures.cases
