-- `list::open` meets its contract: the book's refusals, then 14, for the count and for a word.
-- Assumes nothing.
use Prim.Native.Nat.{◌≤◌}
use mathlib.Core.Path.{◌≡◌, sym, ap}
use native.Mathlib.Omega.{arith}
use lib.ListN.{length}
use lib.Seq.{length-take-le}
use Rattle.std.proofs.lemmas.Result.{err_from_is_err_and}
use Rattle.answer.specs.Answer.{answered}
use Rattle.book.specs.Reading.{reading}
use Rattle.book.specs.Clauses.{meant}
use Rattle.book.proofs.Checks.{check_refused}
use Rattle.book.proofs.Walk.{found}
use Rattle.records.proofs.Words.{fault_le}
use Rattle.list.proofs.Opening.{before_end, at_end, opens_no, opens_many, opens_fault, opens_fine, read_as}
use Rattle.list.proofs.open.Goals as goal
use Rattle.list.proofs.open.Goals.{After-fault-place, In_ok-book}

-- where `check` accepts
accepted : (c : In_ok-book) → reading c.args.bytes.now ≡ answered (meant c.in_ok-book.book)
accepted c = read_as c.in_ok-book.book _ (ap (λ r. r.now) c.in_ok-book.ensures.same)

-- the place that `fault` gives lies within the words
within : (c : After-fault-place) → c.fault-place.result ≤ length c.args.records.now
within c =
    let a = c.args in
    omega (arith, c.room.ensures, c.if-room-count.false, c.fault-place.ensures, fault_le c.in_ok-book.book.groups a.records.now a.count)

pub returns-in_err-book-clause-opened : goal.returns-in_err-book-clause-opened
returns-in_err-book-clause-opened c =
    let p = err_from_is_err_and c.from_residual.result c.from_residual.ensures.1 in
    rw (p.1, p.2) (sym (opens_no _ _ _ _ _ (check_refused _ _ _ c.in_err-book.ensures.checked)))

pub returns-then-room-count-clause-opened : goal.returns-then-room-count-clause-opened
returns-then-room-count-clause-opened c =
    let k = accepted (goal.at.returns-then-room-count-clause-opened c).In_ok-book in
    simp (c.at.ensures.0, c.at.ensures.1) (sym (opens_many _ _ _ _ k (omega (arith, c.room.ensures, c.if-room-count.true))))

pub fault-place-requires : goal.fault-place-requires
fault-place-requires c =
    let b = c.in_ok-book.book in
    (omega (arith, c.room.ensures, c.if-room-count.false), omega (arith, b.groups_are, (found b).groups))

pub slice_bounds-room-end : goal.slice_bounds-room-end
slice_bounds-room-end c = sym (length-take-le _ _ (within c))

pub returns-then-room-count-2-clause-opened : goal.returns-then-room-count-2-clause-opened
returns-then-room-count-2-clause-opened c =
    let g = goal.at.returns-then-room-count-2-clause-opened c in
    simp (c.at-then-room-count-2.ensures.0, c.at-then-room-count-2.ensures.1)
    (sym (opens_fault _ _ _ _ (accepted g.In_ok-book) (omega (arith, c.room.ensures, c.if-room-count.false)) _ _ c.in_ok-book.book.groups_are c.fault-place.ensures
    (before_end _ _ _ _ (within g.After-fault-place) c.room-2.ensures c.if-room-count-2.true)))

pub returns-clause-opened : goal.returns-clause-opened
returns-clause-opened c =
    let g = goal.at.returns-clause-opened c in
    sym (opens_fine _ _ _ _ (accepted g.In_ok-book) (omega (arith, c.room.ensures, c.if-room-count.false)) _ _ c.in_ok-book.book.groups_are c.fault-place.ensures
    (at_end _ _ _ _ (within g.After-fault-place) c.room-2.ensures c.if-room-count-2.false))
