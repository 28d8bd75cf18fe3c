-- What `book::count_clauses` leaves open, from the laws.
use mathlib.Core.Path.{◌≡◌, sym, ◌∙◌}
use native.Mathlib.Omega.{arith}
use Rattle.std.proofs.Common.{rules}
use Rattle.std.proofs.lemmas.Result.{err_from_is_err_and}
use Rattle.answer.proofs.Refusals.{right_where, cause_where}
use Rattle.book.specs.Reading.{wrong_field}
use Rattle.book.proofs.Tests.{FieldOk, field_ok}
use Rattle.book.proofs.Counting.{passed_start, passed_bad, passed_after, passed_done, passed_next}
use Rattle.book.proofs.count_clauses.Goals as goal
use Rattle.book.proofs.count_clauses.Goals.{In_ok-map_err}

-- where the field is right
right : (c : In_ok-map_err) → wrong_field c.args.header.variables c.args.header.groups c.loop-size.left c.loop-size.rest.now ≡ 0
right c = sym c.test_field.ensures.wrong ∙ right_where _ c.in_ok-map_err.ensures.variant

ok : (c : In_ok-map_err) → FieldOk c.args.header.variables c.args.header.groups c.loop-size.left c.loop-size.rest.now
ok c = field_ok _ _ _ _ (right c)

pub loop-size-init : goal.loop-size-init
loop-size-init c = passed_start _ _ _ c.requires.0 c.requires.1

pub returns-in_err-map_err : goal.returns-in_err-map_err
returns-in_err-map_err c =
    let p = err_from_is_err_and c.from_residual.result c.from_residual.ensures.1 in
    let q = cause_where c.test_field.result c.in_err-map_err.field-0.0 c.loop-size.place _ c.in_err-map_err.ensures.cases (λ e h. search rules) in
    rw (p.1, p.2, q.1) (passed_bad _ _ _ _ _ _ c.loop-size.invariant _ (sym q.0 ∙ c.test_field.ensures.wrong))

pub returns-then-size-rest : goal.returns-then-size-rest
returns-then-size-rest c =
    simp (c.at.ensures.0, c.at.ensures.1)
    (passed_after _ _ _ _ _ _ c.loop-size.invariant (right (goal.at.returns-then-size-rest c).In_ok-map_err) _ c.size_of-size.ensures c.if-rest-eq0.true c.if-size-rest.true)

pub returns-then-rest-eq0 : goal.returns-then-rest-eq0
returns-then-rest-eq0 c = passed_done _ _ _ _ _ _ c.loop-size.invariant (right (goal.at.returns-then-rest-eq0 c).In_ok-map_err) _ c.size_of-size.ensures c.if-rest-eq0.true c.if-size-rest.false

pub overflow_sub-left : goal.overflow_sub-left
overflow_sub-left c = ((ok (goal.at.overflow_sub-left c).In_ok-map_err).holds c.if-rest-eq0.false).room

pub loop-size-smaller : goal.loop-size-smaller
loop-size-smaller c = omega (arith, ((ok (goal.at.loop-size-smaller c).In_ok-map_err).holds c.if-rest-eq0.false).room)

pub loop-size-preserved : goal.loop-size-preserved
loop-size-preserved c = passed_next _ _ _ c.loop-size.rest.now _ _ c.loop-size.invariant (right (goal.at.loop-size-preserved c).In_ok-map_err) _ c.size_of-size.ensures c.if-rest-eq0.false
