-- `text_reader::write_rest` meets its contract: all is known before anything is written, so a refusal leaves the space as it came.
-- Assumes nothing.
use mathlib.Core.Path.{◌≡◌, sym, ◌∙◌}
use native.Mathlib.Omega.{arith}
use lib.ListN.{length}
use Rattle.std.proofs.Common.{rules}
use Rattle.std.proofs.lemmas.Result.{err_from_is_err_and}
use Rattle.answer.specs.Answer.{first}
use Rattle.answer.proofs.Refusals.{right_where, cause_where}
use Rattle.writer.specs.Steps.{room_tests}
use Rattle.writer.proofs.Books.{taken_refused, put_refused, put_wrong, put_room}
use Rattle.text_reader.proofs.Whole.{Took, took, took_room, took_written}
use Rattle.text_reader.proofs.write_rest.Goals as goal
use Rattle.text_reader.proofs.write_rest.Goals.{In_ok-taken, In_ok-map_err}

-- where the lines are taken, and the book fits
book_is : (c : In_ok-taken) → Took c.args.heading.clauses c.args.opened c.args.rest.now c.args.heading.variables c.args.heading.groups c.in_ok-taken.taken
book_is c = took _ _ _ _ _ _ c.in_ok-taken.ensures

room : (c : In_ok-map_err) → first (room_tests (length c.args.out.now) c.in_ok-taken.taken.length) ≡ 0
room c = sym c.test_room.ensures ∙ right_where _ c.in_ok-map_err.ensures.variant

pub returns-in_err-taken : goal.returns-in_err-taken
returns-in_err-taken c =
    let p = err_from_is_err_and c.from_residual.result c.from_residual.ensures.1 in
    rw (p.1, p.2) (put_refused _ _ _ (taken_refused _ _ _ c.in_err-taken.ensures))

pub returns-in_err-map_err : goal.returns-in_err-map_err
returns-in_err-map_err c =
    let k = book_is (goal.at.returns-in_err-map_err c).In_ok-taken in
    let r = c.from_residual-in_err-map_err in
    let p = err_from_is_err_and r.result r.ensures.1 in
    let q = cause_where c.test_room.result c.in_err-map_err.field-0.0 0 _ c.in_err-map_err.ensures.cases (λ e h. search rules) in
    rw (p.1, p.2) (put_wrong _ _ _ k.is _ k.length_is _ (sym q.0 ∙ c.test_room.ensures) q.1)

pub put_header-requires : goal.put_header-requires
put_header-requires c =
    let k = book_is (goal.at.put_header-requires c).In_ok-taken in
    omega (arith, put_room _ c.args.out.now _ k.is _ k.length_is (room (goal.at.put_header-requires c).In_ok-map_err), k.length_is, took_room _ _ _ _ _ _ k)

pub put_clauses-count-requires : goal.put_clauses-count-requires
put_clauses-count-requires c =
    let k = book_is (goal.at.put_clauses-count-requires c).In_ok-taken in
    let fits = put_room _ c.args.out.now _ k.is _ k.length_is (room (goal.at.put_clauses-count-requires c).In_ok-map_err) in
    let p = c.requires in
    record {
      variables_bound = (omega (arith, k.same, p), omega (arith, k.same, p), k.are);
      rest_in_bounds = omega (arith, fits, k.length_is, took_room _ _ _ _ _ _ k);
    }

pub returns : goal.returns
returns c = took_written _ _ _ _ _ _ (book_is (goal.at.returns c).In_ok-taken) c.args.out.now (room (goal.at.returns c).In_ok-map_err) _ _ _ _ c.put_header.ensures c.put_clauses-count.ensures
