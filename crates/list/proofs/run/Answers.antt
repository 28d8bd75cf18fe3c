-- `list::run` meets its contract: the refusals in their order, and the rounds.
-- Assumes nothing.
use Prim.Native.Nat.{◌-◌, min}
use mathlib.Core.Path.{◌≡◌, sym, ap, ◌∙◌}
use native.Mathlib.Omega.{arith}
use lib.Seq.{length-take-le}
use Rattle.std.proofs.lemmas.Result.{err_from_is_err_and}
use Rattle.field.proofs.Words.{bytes_at}
use Rattle.book.specs.Walk.{book_of}
use Rattle.book.specs.Clauses.{meant}
use Rattle.records.specs.Words.{room, fault}
use Rattle.admit.specs.Admits.{work_words}
use Rattle.admit.proofs.Admits.{cleared_over}
use Rattle.list.proofs.Opening.{Opened, opened, lists_no, lists_tight, lists_goes}
use Rattle.list.proofs.Lists.{told_no, told_listed}
use Rattle.list.proofs.run.Goals as goal
use Rattle.list.proofs.run.Goals.{In_ok-book}

-- where the book is accepted and the records are well formed
right : (c : In_ok-book) → let a = c.args in Opened a.bytes.now a.records.now a.count × (book_of a.bytes.now ≡ meant c.in_ok-book.book)
right c = opened _ _ _ _ (bytes_at c.args.bytes.now (λ i. (c.type_inv.bytes i).fits)) (sym c.in_ok-book.ensures.opened)

pub returns-in_err-book : goal.returns-in_err-book
returns-in_err-book c =
    let p = err_from_is_err_and c.from_residual.result c.from_residual.ensures.1 in
    rw (p.1, p.2) (told_no _ _ _ _ _ _ (lists_no _ _ _ _ _ _ (sym c.in_err-book.ensures.opened)))

pub returns-then-work-lt-WORK_WORDS : goal.returns-then-work-lt-WORK_WORDS
returns-then-work-lt-WORK_WORDS c =
    told_no _ _ _ _ _ _ (simp (c.at.ensures.0, c.at.ensures.1) (lists_tight _ _ _ _ _ (sym c.in_ok-book.ensures.opened) c.if-work-lt-WORK_WORDS.true))

pub overflow_sub-left : goal.overflow_sub-left
overflow_sub-left c = omega (arith, c.room.ensures, (right (goal.at.overflow_sub-left c).In_ok-book).0.few)

pub rounds-listed-requires : goal.rounds-listed-requires
rounds-listed-requires c =
    let a = c.args in
    let k = right (goal.at.rounds-listed-requires c).In_ok-book in (
      length-take-le work_words a.work.now c.if-work-lt-WORK_WORDS.false,
      omega arith,
      omega (arith, c.min.ensures, c.room.ensures, k.0.few),
      ap (λ g. fault g a.records.now a.count) (c.in_ok-book.book.groups_are ∙ ap (λ b. b.groups) (sym k.1)) ∙ k.0.right,
    )

pub returns : goal.returns
returns c =
    let r = c.rounds-listed in
    let a = c.args in
    told_listed _ (min a.most (room a.records.now - a.count)) _ _ _ _ _ _ _ _ (lists_goes _ _ _ _ _ (sym c.in_ok-book.ensures.opened) c.if-work-lt-WORK_WORDS.false)
    (omega (arith, c.min.ensures, c.room.ensures)) r.ensures
    (cleared_over _ r.new.work _ _ (r.auto.work ∙ length-take-le work_words a.work.now c.if-work-lt-WORK_WORDS.false) (omega arith) c.clear.ensures)
