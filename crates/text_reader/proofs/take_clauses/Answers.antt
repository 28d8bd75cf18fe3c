-- What `text_reader::take_clauses` leaves open, from the laws.
use mathlib.Core.Path.{◌≡◌, refl, sym, ap, ◌∙◌}
use native.Mathlib.Omega.{arith}
use lib.ListN.{length}
use Rattle.std.specs.Prelude.{Ok}
use Rattle.std.proofs.Common.{rules}
use Rattle.std.proofs.lemmas.Result.{err_from_is_err_and}
use Rattle.answer.proofs.Refusals.{number_some, cause_where}
use Rattle.clause_line.specs.Steps.{step_of}
use Rattle.text_reader.specs.Steps.{line_in}
use Rattle.text_reader.proofs.Turns.{after_shorter}
use Rattle.text_reader.proofs.Passing.{passing_start, passing_skipped, passing_wrong, Next, passing_clause, passing_off, passing_done, step_where, cause_told}
use Rattle.text_reader.proofs.take_clauses.Goals as goal
use Rattle.text_reader.proofs.take_clauses.Goals.{In_ok-clause, In-Some-2, in-Some-2, in_default-2}

-- what the next line adds
added : (c : In_ok-clause) → step_of c.args.heading.variables c.args.heading.groups c.loop-first.left (line_in c.loop-first.rest.now) ≡ Ok c.in_ok-clause.field-0
added c =
    ap (step_of c.args.heading.variables c.args.heading.groups c.loop-first.left) (sym c.in-Some.ensures.0)
    ∙ sym c.step_of-step.ensures.value
    ∙ step_where _ _ _ c.in_ok-clause.ensures.variant c.in_ok-clause.ensures.cases

pub loop-first-init : goal.loop-first-init
loop-first-init c = record { passing = passing_start _ _ _ _ _; words = refl }

pub returns-in_err-clause : goal.returns-in_err-clause
returns-in_err-clause c =
    let p = err_from_is_err_and c.from_residual.result c.from_residual.ensures.1 in
    let q = cause_where c.step_of-step.result c.in_err-clause.field-0.0 c.loop-first.line _ c.in_err-clause.ensures.cases (λ e h. search rules) in
    let e = cause_told c.step_of-step.result _ q.0 (number_some _) in
    rw (p.1, p.2, q.1)
    (passing_wrong _ _ _ _ _ c.loop-first.rest.now _ _ _ c.loop-first.invariant.passing c.in-Some.ensures.2 _
    (ap (step_of c.args.heading.variables c.args.heading.groups c.loop-first.left) (sym c.in-Some.ensures.0) ∙ sym c.step_of-step.ensures.value ∙ e))

clause : (c : In-Some-2) → (e : step_of c.args.heading.variables c.args.heading.groups c.loop-first.left (line_in c.loop-first.rest.now) ≡ Ok c.in_ok-clause.field-0)
    → Next c.args.heading.variables c.args.heading.clauses c.args.heading.groups c.args.opened c.args.clauses.now c.loop-first.rest.now c.loop-first.line c.loop-first.left c.loop-first.length
    c.loop-first.invariant.passing c.in-Some.ensures.2 c.in-Some-2.clause
clause c e = passing_clause _ _ _ _ _ c.loop-first.rest.now _ _ _ c.loop-first.invariant.passing c.in-Some.ensures.2 c.requires.0 c.requires.1 _ (e ∙ ap Ok c.in-Some-2.is)

pub overflow_mul-length : goal.overflow_mul-length
overflow_mul-length c = let k = clause (goal.at.overflow_mul-length c).In-Some-2 (added (goal.at.overflow_mul-length c).In_ok-clause) in omega (arith, k.few)

pub overflow_add-length : goal.overflow_add-length
overflow_add-length c = let k = clause (goal.at.overflow_add-length c).In-Some-2 (added (goal.at.overflow_add-length c).In_ok-clause) in omega (arith, k.few)

pub overflow_add-length-in-Some-2 : goal.overflow_add-length-in-Some-2
overflow_add-length-in-Some-2 c =
    let k = clause (goal.at.overflow_add-length-in-Some-2 c).In-Some-2 (added (goal.at.overflow_add-length-in-Some-2 c).In_ok-clause) in
    omega (arith, k.few, c.loop-first.invariant.passing.small)

pub overflow_sub-left : goal.overflow_sub-left
overflow_sub-left c = (clause (goal.at.overflow_sub-left c).In-Some-2 (added (goal.at.overflow_sub-left c).In_ok-clause)).room

pub loop-first-smaller : goal.loop-first-smaller
loop-first-smaller c = omega (arith, after_shorter c.loop-first.rest.now c.in-Some.ensures.2, ap length c.in-Some.ensures.1)

pub loop-first-preserved : goal.loop-first-preserved
loop-first-preserved c =
    let e = added (goal.at.loop-first-preserved c).In_ok-clause in
    record {
      passing = rw c.in-Some.ensures.1 (elim c.match-branch-2.branch [
        | in-Some-2 w ↦ rw (w.left-is, w.length-is)
            (passing_clause _ _ _ _ _ c.loop-first.rest.now _ _ _ c.loop-first.invariant.passing c.in-Some.ensures.2 c.requires.0 c.requires.1 _ (e ∙ ap Ok w.in-Some-2.is)).next_turn
        | in_default-2 w ↦ rw (w.left-is, w.length-is)
            (passing_skipped _ _ _ _ _ c.loop-first.rest.now _ _ _ c.loop-first.invariant.passing c.in-Some.ensures.2 (e ∙ ap Ok w.in_default-2.is))
      ]);
      words = c.step_of-step.auto.body ∙ c.loop-first.invariant.words;
    }

pub returns-then-left-heading : goal.returns-then-left-heading
returns-then-left-heading c =
    simp (c.at.ensures.0, c.at.ensures.1) (passing_off _ _ _ _ _ _ _ _ _ c.loop-first.invariant.passing c.in_default.ensures (λ e. omega (arith, e, c.if-left-heading.true)))

pub returns : goal.returns
returns c = passing_done _ _ _ _ _ _ _ _ _ c.loop-first.invariant.passing c.in_default.ensures (omega (arith, c.if-left-heading.false))
