-- What `writer::scan_clause` leaves open, from the laws.
use Prim.Native.Nat.{◌+◌}
use mathlib.Core.Path.{◌≡◌, sym, ◌∙◌}
use mathlib.Core.List.{◌∷◌}
use native.Mathlib.Omega.{arith}
use lib.IntN.{pos}
use lib.ListN.{length, get_or, drop}
use mir.Syntax.{w32}
use mir.Val.{SFits}
use Rattle.std.proofs.Common.{rules}
use Rattle.std.proofs.lemmas.List.{drop_all}
use Rattle.std.proofs.lemmas.Int.{to_z-of_z}
use Rattle.std.proofs.lemmas.Result.{err_from_is_err_and}
use Rattle.answer.proofs.Refusals.{right_where, cause_where}
use Rattle.signed.specs.Signed.{signed_of}
use Rattle.writer.proofs.Scans.{cut, scanning_start, scanning_none, scanning_zero, scanning_bad_head, scanning_head, scanning_bad_body, scanning_body, head_most, body_most}
use Rattle.writer.proofs.scan_clause.Goals as goal
use Rattle.writer.proofs.scan_clause.Goals.{After-from, in-Plus+in_ok-map_err-in-Plus, in-Minus+in_ok-map_err-in-Minus}

-- the sign of the number at hand
sign : (c : After-from) → c.from.result ≡ signed_of (get_or c.args.s.now c.loop-i.i (pos 0))
sign c = let f : SFits w32 (get_or c.args.s.now c.loop-i.i (pos 0)) = search rules in rw to_z-of_z at c.from.ensures

-- what is left, by the number at hand
here : (c : After-from) → drop c.loop-i.i c.args.s.now ≡ get_or c.args.s.now c.loop-i.i (pos 0) ∷ drop (c.loop-i.i + 1) c.args.s.now
here c = cut _ _ c.loop-i-test.true

pub loop-i-init : goal.loop-i-init
loop-i-init c = scanning_start _ _ _

pub returns-in-Plus-eq0 : goal.returns-in-Plus-eq0
returns-in-Plus-eq0 c =
    let a = (goal.at.returns-in-Plus-eq0 c).After-from in
    scanning_zero _ _ _ _ _ _ _ _ c.loop-i.invariant _ _ (here a) _ (sym (sign a) ∙ c.in-Plus-eq0.is) c.in-Plus-eq0.field-0-test

pub returns-in_err-map_err-in-Plus : goal.returns-in_err-map_err-in-Plus
returns-in_err-map_err-in-Plus c =
    let a = (goal.at.returns-in_err-map_err-in-Plus c).After-from in
    let p = err_from_is_err_and c.from_residual.result c.from_residual.ensures.1 in
    let q = cause_where c.test_head.result c.in_err-map_err-in-Plus.field-0.0 (c.args.at + c.loop-i.i) _ c.in_err-map_err-in-Plus.ensures.cases (λ e h. search rules) in
    rw (p.1, p.2, q.1) (scanning_bad_head _ _ _ _ _ _ _ _ c.loop-i.invariant _ _ (here a) _ (sym (sign a) ∙ c.in-Plus.is) c.in-Plus.n-test.1 _ (sym q.0 ∙ c.test_head.ensures))

pub overflow_cast-head : goal.overflow_cast-head
overflow_cast-head c = let most = head_most c.args.variables c.loop-i.head c.in-Plus.n (sym c.test_head.ensures ∙ right_where _ c.in_ok-map_err-in-Plus.ensures.variant) in
    omega (arith, c.ranges.variables)

pub returns-in_err-map_err-in-Minus : goal.returns-in_err-map_err-in-Minus
returns-in_err-map_err-in-Minus c =
    let a = (goal.at.returns-in_err-map_err-in-Minus c).After-from in
    let r = c.from_residual-in_err-map_err-in-Minus in
    let p = err_from_is_err_and r.result r.ensures.1 in
    let q = cause_where c.test_body.result c.in_err-map_err-in-Minus.field-0.0 (c.args.at + c.loop-i.i) _ c.in_err-map_err-in-Minus.ensures.cases (λ e h. search rules) in
    rw (p.1, p.2, q.1) (scanning_bad_body _ _ _ _ _ _ _ _ c.loop-i.invariant _ _ (here a) _ (sym (sign a) ∙ c.in-Minus.is) _ (sym q.0 ∙ c.test_body.ensures))

pub overflow_cast-last : goal.overflow_cast-last
overflow_cast-last c =
    let most = body_most c.args.variables c.loop-i.head c.loop-i.last c.loop-i.count c.in-Minus.n (sym c.test_body.ensures ∙ right_where _ c.in_ok-map_err-in-Minus.ensures.variant) in
    omega (arith, c.ranges.variables)

pub loop-i-preserved : goal.loop-i-preserved
loop-i-preserved c =
    let a = (goal.at.loop-i-preserved c).After-from in
    let next : c.args.at + c.loop-i.i + 1 ≡ c.args.at + (c.loop-i.i + 1) = omega arith in
    rw (← next)
    (elim c.match-from.branch [
      | in-Plus+in_ok-map_err-in-Plus w ↦
          rw (w.head-is, w.last-is, w.count-is)
          (scanning_head _ _ _ _ _ _ _ _ c.loop-i.invariant _ _ (here a) _ (sym (sign a) ∙ w.in-Plus.is) w.in-Plus.n-test.1
          (sym w.test_head.ensures ∙ right_where _ w.in_ok-map_err-in-Plus.ensures.variant))
      | in-Minus+in_ok-map_err-in-Minus w ↦
          rw (w.head-is, w.last-is, w.count-is)
          (scanning_body _ _ _ _ _ _ _ _ c.loop-i.invariant _ _ (here a) _ (sym (sign a) ∙ w.in-Minus.is)
          (sym w.test_body.ensures ∙ right_where _ w.in_ok-map_err-in-Minus.ensures.variant))
    ])

pub returns : goal.returns
returns c =
    let i : c.loop-i.i ≡ length c.args.s.now = omega arith in
    simp (c.at.ensures.0, c.at.ensures.1, ← i) (scanning_none _ _ _ _ _ _ _ _ c.loop-i.invariant (drop_all c.loop-i.i c.args.s.now (omega arith)))
