-- `text_writer::to_text` meets its contract: the length is known before anything is written, so a refusal leaves the space as it came.
-- Assumes nothing.
use mathlib.Core.Path.{◌≡◌, ap}
use native.Mathlib.Omega.{arith}
use Rattle.answer.specs.Answer.{answered}
use Rattle.answer.proofs.Spaces.{wrote_length}
use Rattle.std.proofs.lemmas.Result.{err_from_is_err_and}
use Rattle.book.specs.Clauses.{meant}
use Rattle.book.specs.Reading.{reading}
use Rattle.book.proofs.Checks.{check_refused}
use Rattle.book.proofs.Walk.{reads_as}
use Rattle.text.proofs.Written.{text_length}
use Rattle.text_writer.proofs.Texts.{text_refused, text_short, text_written}
use Rattle.text_writer.proofs.to_text.Goals as goal
use Rattle.text_writer.proofs.to_text.Goals.{In_ok-book}

-- where `check` accepts
accepted : (c : In_ok-book) → reading c.args.bytes.now ≡ answered (meant c.in_ok-book.book)
accepted c = reads_as c.in_ok-book.book _ (ap (λ r. r.now) c.in_ok-book.ensures.same)

pub returns-in_err-book : goal.returns-in_err-book
returns-in_err-book c =
    let p = err_from_is_err_and c.from_residual.result c.from_residual.ensures.1 in
    rw (p.1, p.2) (text_refused _ _ _ (check_refused _ _ _ c.in_err-book.ensures.checked))

pub returns-then-out-text_length : goal.returns-then-out-text_length
returns-then-out-text_length c =
    text_short _ _ (meant c.in_ok-book.book) (accepted (goal.at.returns-then-out-text_length c).In_ok-book) _ c.at.ensures.0 c.at.ensures.1
    (omega (arith, c.if-out-text_length.true, c.text_length.ensures))

pub put_heading-at-requires : goal.put_heading-at-requires
put_heading-at-requires c = omega (arith, c.if-out-text_length.false, c.text_length.ensures, text_length (meant c.in_ok-book.book))

pub put_clauses-requires : goal.put_clauses-requires
put_clauses-requires c =
    let w = c.put_heading-at.ensures in
    omega (arith, c.if-out-text_length.false, c.text_length.ensures, text_length (meant c.in_ok-book.book), w.place, wrote_length _ _ _ _ _ w)

pub returns : goal.returns
returns c =
    text_written _ _ (meant c.in_ok-book.book) (accepted (goal.at.returns c).In_ok-book) _ _ _ _ (omega (arith, c.if-out-text_length.false, c.text_length.ensures))
    c.put_heading-at.ensures c.put_clauses.ensures
