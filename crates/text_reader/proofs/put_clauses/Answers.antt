-- What `text_reader::put_clauses` leaves open, from the laws.
use mathlib.Core.Path.{◌≡◌, refl, sym, ap, ◌∙◌}
use native.Mathlib.Omega.{arith}
use lib.ListN.{length}
use mathlib.Core.List.{List}
use Prim.Native.Nat.{ℕ}
use Rattle.std.specs.Prelude.{Ok, Some}
use Rattle.std.proofs.lemmas.List.{map-id}
use Rattle.clause_line.specs.Steps.{told, step_of, body_after}
use Rattle.text_reader.specs.Steps.{line_in, clauses_of}
use Rattle.text_reader.proofs.Turns.{after_shorter}
use Rattle.text_reader.proofs.Copying.{copying_start, copy_skipped, copy_right, Copy, copy, copy_room, copy_next, copy_last, copy_end}
use Rattle.text_reader.proofs.put_clauses.Goals as goal
use Rattle.text_reader.proofs.put_clauses.Goals.{After-step_of, After-unwrap-step, In-Some-step}

-- what the next line adds
told_by : (c : After-step_of) → told c.step_of.result ≡ step_of c.args.variables c.args.groups c.loop-first.left (line_in c.loop-first.rest.now)
told_by c = c.step_of.ensures.value ∙ ap (step_of c.args.variables c.args.groups c.loop-first.left) c.in-Some.ensures.0

adds : (c : After-unwrap-step) → step_of c.args.variables c.args.groups c.loop-first.left (line_in c.loop-first.rest.now) ≡ Ok c.unwrap-step.result
adds c =
    ap (step_of c.args.variables c.args.groups c.loop-first.left) (sym c.in-Some.ensures.0) ∙ sym c.step_of.ensures.value ∙ ap told c.unwrap-step.ensures

-- where it is a clause
added : (c : In-Some-step) → step_of c.args.variables c.args.groups c.loop-first.left (line_in c.loop-first.rest.now) ≡ Ok (Some c.in-Some-step.clause)
added c =
    ap (step_of c.args.variables c.args.groups c.loop-first.left) (sym c.in-Some.ensures.0)
    ∙ sym c.step_of.ensures.value
    ∙ ap told c.unwrap-step.ensures
    ∙ ap Ok c.in-Some-step.is

leaves : (c : In-Some-step) → c.step_of.new.body ≡ body_after (line_in c.loop-first.rest.now) c.loop-first.body
leaves c = c.step_of.ensures.body_after ∙ ap (λ (l : List ℕ). body_after l c.loop-first.body) c.in-Some.ensures.0

clause : (c : In-Some-step)
    → Copy c.args.variables c.args.groups (clauses_of c.args.variables c.args.groups c.args.clauses.now) c.args.out.now c.loop-first.out c.loop-first.rest.now c.loop-first.left
    c.loop-first.at c.loop-first.invariant.copying c.in-Some.ensures.2 c.requires.variables_bound.0 c.requires.variables_bound.1 c.in-Some-step.clause (added c) c.loop-first.body
    c.step_of.new.body (leaves c)
clause c = copy _ _ _ _ _ c.loop-first.rest.now _ _ c.loop-first.invariant.copying c.in-Some.ensures.2 c.requires.variables_bound.0 c.requires.variables_bound.1 _ (added c) _ _ (leaves c)

pub loop-first-init : goal.loop-first-init
loop-first-init c = record { copying = copying_start _ _ _ _ c.requires.variables_bound.2; words = refl }

pub unwrap-step-requires : goal.unwrap-step-requires
unwrap-step-requires c =
    copy_right _ _ _ _ _ c.loop-first.rest.now _ _ c.loop-first.invariant.copying c.in-Some.ensures.2 _ (told_by (goal.at.unwrap-step-requires c).After-step_of)

pub slice_bounds-body-end : goal.slice_bounds-body-end
slice_bounds-body-end c = omega (arith, (clause c).few, c.type_inv.body)

pub slice_bounds-put_clause-end : goal.slice_bounds-put_clause-end
slice_bounds-put_clause-end c = sym (clause (goal.at.slice_bounds-put_clause-end c).In-Some-step).fits

pub put_clause-at-requires : goal.put_clause-at-requires
put_clause-at-requires c =
    let a = (goal.at.put_clause-at-requires c).In-Some-step in
    let k = clause a in
    record {
      body_len_bound = omega (arith, k.few, k.fits);
      body_in_bounds =
          copy_room _ _ _ _ _ c.loop-first.rest.now _ _ c.loop-first.invariant.copying c.in-Some.ensures.2 c.requires.variables_bound.0 c.requires.variables_bound.1 _ (added a) _ _ (leaves a)
          c.requires.rest_in_bounds;
    }

pub overflow_sub-left : goal.overflow_sub-left
overflow_sub-left c = (clause (goal.at.overflow_sub-left c).In-Some-step).room

pub loop-first-smaller-in-Some-step : goal.loop-first-smaller-in-Some-step
loop-first-smaller-in-Some-step c = omega (arith, after_shorter c.loop-first.rest.now c.in-Some.ensures.2, ap length c.in-Some.ensures.1)

pub loop-first-preserved-in-Some-step : goal.loop-first-preserved-in-Some-step
loop-first-preserved-in-Some-step c =
    let a = (goal.at.loop-first-preserved-in-Some-step c).In-Some-step in
    record {
      copying = rw c.in-Some.ensures.1
          (copy_next _ _ _ _ _ c.loop-first.rest.now _ _ c.loop-first.invariant.copying c.in-Some.ensures.2 c.requires.variables_bound.0 c.requires.variables_bound.1 _ (added a) _ _ (leaves a) _ _
          (rw map-id at c.put_clause-at.ensures));
      words = c.step_of.auto.body ∙ c.loop-first.invariant.words;
    }

pub loop-first-smaller : goal.loop-first-smaller
loop-first-smaller c = omega (arith, after_shorter c.loop-first.rest.now c.in-Some.ensures.2, ap length c.in-Some.ensures.1)

pub loop-first-preserved : goal.loop-first-preserved
loop-first-preserved c =
    record {
      copying = rw c.in-Some.ensures.1
          (copy_skipped _ _ _ _ _ c.loop-first.rest.now _ _ c.loop-first.invariant.copying c.in-Some.ensures.2 (adds (goal.at.loop-first-preserved c).After-unwrap-step ∙ ap Ok c.in_default-step.is));
      words = c.step_of.auto.body ∙ c.loop-first.invariant.words;
    }

pub put_front-requires : goal.put_front-requires
put_front-requires c = copy_last _ _ _ _ _ _ _ _ c.loop-first.invariant.copying c.in_default.ensures c.requires.rest_in_bounds

pub returns : goal.returns
returns c = copy_end _ _ _ _ _ _ _ _ c.loop-first.invariant.copying c.in_default.ensures _ _ c.put_front.ensures
