-- `reader::read` meets its contract: the length is known before anything is written, so a refusal leaves the space as it came.
-- Assumes nothing.
use Prim.Native.Nat.{◌+◌, ◌≤◌}
use mathlib.Core.Path.{◌≡◌, ap}
use native.Mathlib.Omega.{arith}
use lib.ListN.{length}
use Rattle.std.proofs.lemmas.Result.{err_from_is_err_and}
use Rattle.book.specs.Clauses.{meant}
use Rattle.book.specs.Reading.{reading}
use Rattle.answer.specs.Answer.{answered}
use Rattle.book.proofs.Checks.{check_refused}
use Rattle.book.proofs.Walk.{reads_as}
use Rattle.plain.specs.Plain.{plain_clauses}
use Rattle.reader.proofs.Reading.{plain_length, read_refused, read_short, read_written}
use Rattle.reader.proofs.read.Goals as goal
use Rattle.reader.proofs.read.Goals.{Else-out-plain_length, In_ok-book}

-- where `check` accepts
accepted : (c : In_ok-book) → reading c.args.bytes.now ≡ answered (meant c.in_ok-book.book)
accepted c = reads_as c.in_ok-book.book _ (ap (λ r. r.now) c.in_ok-book.ensures.same)

-- where the space is long enough
long : (c : Else-out-plain_length) → 2 + length (plain_clauses (meant c.in_ok-book.book).clauses) ≤ length c.args.out.now
long c = omega (arith, c.if-out-plain_length.false, c.plain_length.ensures, plain_length (meant c.in_ok-book.book))

pub returns-in_err-book : goal.returns-in_err-book
returns-in_err-book c =
    let p = err_from_is_err_and c.from_residual.result c.from_residual.ensures.1 in
    rw (p.1, p.2) (read_refused _ _ _ (check_refused _ _ _ c.in_err-book.ensures.checked))

pub returns-then-out-plain_length : goal.returns-then-out-plain_length
returns-then-out-plain_length c = let b = c.in_ok-book.book in
    read_short _ _ (meant b) (accepted (goal.at.returns-then-out-plain_length c).In_ok-book) _ c.at.ensures.0 c.at.ensures.1 (omega (arith, c.if-out-plain_length.true, c.plain_length.ensures))

pub put_plus-requires : goal.put_plus-requires
put_plus-requires c = omega (arith, long (goal.at.put_plus-requires c).Else-out-plain_length)

pub put_plus-requires-2 : goal.put_plus-requires-2
put_plus-requires-2 c = omega (arith, long (goal.at.put_plus-requires-2 c).Else-out-plain_length, c.put_plus.auto.out)

pub put_clauses-requires : goal.put_clauses-requires
put_clauses-requires c = omega (arith, long (goal.at.put_clauses-requires c).Else-out-plain_length, c.put_plus-2.auto.out, c.put_plus.auto.out)

pub returns : goal.returns
returns c = let b = c.in_ok-book.book in
    read_written _ c.args.out.now (meant b) (accepted (goal.at.returns c).In_ok-book) _ _ _ _ _ _ (omega (arith, c.if-out-plain_length.false, c.plain_length.ensures)) b.variables_are b.groups_are
    c.put_plus.ensures c.put_plus-2.ensures c.put_clauses.ensures
