-- `explain::explain` meets its contract: the book's refusals, 10, 11, and the answer.
-- Assumes nothing.
use Prim.Native.Nat.{◌^◌, ◌<◌}
use mathlib.Core.Path.{sym}
use native.Mathlib.Omega.{arith}
use Rattle.std.proofs.lemmas.Result.{err_from_is_err_and}
use Rattle.book.specs.Bytes.{most_groups}
use Rattle.admit.proofs.Admits.{choice_fits}
use Rattle.explain.proofs.Explains.{explains_no, explains_tight, explains_goes, told_no, told_found}
use Rattle.explain.proofs.explain.Goals as goal

pub returns-in_err-book : goal.returns-in_err-book
returns-in_err-book c =
    let p = err_from_is_err_and c.from_residual.result c.from_residual.ensures.1 in
    rw (p.1, p.2) (told_no _ _ _ _ (explains_no _ _ _ _ _ (sym c.in_err-book.ensures.admitted)))

pub returns-then-work-lt-WORK_WORDS : goal.returns-then-work-lt-WORK_WORDS
returns-then-work-lt-WORK_WORDS c =
    told_no _ _ _ _ (simp (c.at.ensures.0, c.at.ensures.1) (explains_tight _ _ _ _ (sym c.in_ok-book.ensures.admitted) c.if-work-lt-WORK_WORDS.true))

pub answer-requires : goal.answer-requires
answer-requires c =
    let f : c.args.choice < 2 ^ most_groups = omega (arith, c.ranges.choice) in
    (rw c.in_ok-book.book.groups_are (choice_fits _ _ _ f (sym c.in_ok-book.ensures.admitted)), c.if-work-lt-WORK_WORDS.false)

pub returns : goal.returns
returns c =
    told_found _ _ _ _ _ (explains_goes _ _ _ _ (sym c.in_ok-book.ensures.admitted) c.if-work-lt-WORK_WORDS.false) _ c.answer.ensures.0 c.answer.ensures.1
