-- `writer::write` meets its contract: all is known before anything is written, so a refusal leaves the space as it came.
-- Assumes nothing.
use mathlib.Core.Path.{◌≡◌, sym, ◌∙◌}
use native.Mathlib.Omega.{arith}
use lib.ListN.{length}
use Rattle.std.proofs.Common.{rules}
use Rattle.std.proofs.lemmas.Result.{err_from_is_err_and}
use Rattle.answer.specs.Answer.{first}
use Rattle.answer.proofs.Refusals.{right_where, cause_where}
use Rattle.book.proofs.Sizes.{header_length}
use Rattle.writer.specs.Writes.{writes}
use Rattle.writer.specs.Steps.{room_tests, book_from, IsPlain}
use Rattle.writer.proofs.Books.{taken_refused, put_refused, put_wrong, put_room, put_written}
use Rattle.writer.proofs.Whole.{Took, took}
use Rattle.writer.proofs.write.Goals as goal
use Rattle.writer.proofs.write.Goals.{In_ok-taken, In_ok-map_err}

-- where the plain form is taken, and the book fits
book_is : (c : In_ok-taken) → Took c.args.plain.now c.in_ok-taken.taken
book_is c = took _ _ c.in_ok-taken.ensures

room : (c : In_ok-map_err) → first (room_tests (length c.args.out.now) c.in_ok-taken.taken.length) ≡ 0
room c = sym c.test_room.ensures ∙ right_where _ c.in_ok-map_err.ensures.variant

pub returns-in_err-taken : goal.returns-in_err-taken
unfolding writes
returns-in_err-taken c =
    let p = err_from_is_err_and c.from_residual.result c.from_residual.ensures.1 in
    rw (p.1, p.2) (put_refused _ _ _ (taken_refused _ _ _ c.in_err-taken.ensures))

pub returns-in_err-map_err : goal.returns-in_err-map_err
unfolding IsPlain writes
returns-in_err-map_err c =
    let k = book_is (goal.at.returns-in_err-map_err c).In_ok-taken in
    let r = c.from_residual-in_err-map_err in
    let p = err_from_is_err_and r.result r.ensures.1 in
    let q = cause_where c.test_room.result c.in_err-map_err.field-0.0 0 _ c.in_err-map_err.ensures.cases (λ e h. search rules) in
    rw (p.1, p.2) (put_wrong _ _ _ k.is _ k.size _ (sym q.0 ∙ c.test_room.ensures) q.1)

pub put_header-requires : goal.put_header-requires
unfolding IsPlain
put_header-requires c =
    let k = book_is (goal.at.put_header-requires c).In_ok-taken in
    omega (arith, put_room _ _ _ k.is _ k.size (room (goal.at.put_header-requires c).In_ok-map_err), header_length (book_from c.args.plain.now))

pub put_clauses-count-requires : goal.put_clauses-count-requires
unfolding IsPlain
put_clauses-count-requires c =
    let k = book_is (goal.at.put_clauses-count-requires c).In_ok-taken in
    let fits = put_room _ c.args.out.now _ k.is _ k.size (room (goal.at.put_clauses-count-requires c).In_ok-map_err) in
    record { plain = k.is; variables_value = k.variables; plain_in_bounds = omega (arith, fits, header_length (book_from c.args.plain.now)) }

pub returns : goal.returns
unfolding IsPlain writes
returns c =
    let k = book_is (goal.at.returns c).In_ok-taken in
    put_written _ c.args.out.now _ k.is _ k.size (room (goal.at.returns c).In_ok-map_err) _ _ _ _ _ _ k.variables k.groups c.put_header.ensures c.put_clauses-count.ensures
