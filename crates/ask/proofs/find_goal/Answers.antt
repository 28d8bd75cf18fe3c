-- `ask::find_goal` meets its contract: the book's refusals, 10, 11, and the answer.
-- Assumes nothing.
use mathlib.Core.Path.{◌≡◌, sym}
use native.Mathlib.Omega.{arith}
use Rattle.std.proofs.lemmas.Result.{err_from_is_err_and}
use Rattle.answer.specs.Answer.{answered}
use Rattle.book.specs.Clauses.{meant}
use Rattle.admit.specs.Admits.{admits}
use Rattle.ask.proofs.Asks.{asks_no, asks_short, asks_tight, asks_goes, told_no, told_goal}
use Rattle.ask.proofs.find_goal.Goals as goal
use Rattle.ask.proofs.find_goal.Goals.{In_ok-book, then-out-book-via-then-out-book, then-out-book-via-else-out-book+then-work-lt-WORK_WORDS}

-- the book has every group of the choice
has : (c : In_ok-book) → admits c.args.bytes.now c.args.choice ≡ answered (meant c.in_ok-book.book)
has c = sym c.in_ok-book.ensures.admitted

pub returns-in_err-book : goal.returns-in_err-book
returns-in_err-book c =
    let p = err_from_is_err_and c.from_residual.result c.from_residual.ensures.1 in
    rw (p.1, p.2) (told_no _ _ _ _ _ _ (asks_no _ _ _ _ _ _ (sym c.in_err-book.ensures.admitted)))

pub returns-then-out-book : goal.returns-then-out-book
returns-then-out-book c =
    let h = has (goal.at.returns-then-out-book c).In_ok-book in
    let v = c.in_ok-book.book.variables_are in
    simp (c.at.ensures.0, c.at.ensures.1)
    (told_no _ _ _ _ _ _
    (elim c.then-out-book.branch [
      | then-out-book-via-then-out-book w ↦ asks_short _ _ _ _ _ h (omega (arith, w.if-out-book.true, v))
      | then-out-book-via-else-out-book+then-work-lt-WORK_WORDS w ↦ asks_tight _ _ _ _ _ h (omega (arith, w.if-out-book.false, v)) w.if-work-lt-WORK_WORDS.true
    ]))

pub returns : goal.returns
returns c =
    let h = has (goal.at.returns c).In_ok-book in
    let a = c.answer.ensures in
    told_goal _ _ _ _ _ _ _ _ (asks_goes _ _ _ _ _ h (omega (arith, c.if-out-book.false, c.in_ok-book.book.variables_are)) c.if-work-lt-WORK_WORDS.false) a.goal a.forced a.cleared
