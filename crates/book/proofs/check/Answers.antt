-- `book::check` meets its contract.
-- Assumes nothing.
use mathlib.Core.Path.{◌≡◌, sym, ◌∙◌}
use native.Mathlib.Omega.{arith}
use Rattle.std.proofs.Common.{ℕ, [], ◌∷◌, rules}
use Rattle.std.proofs.lemmas.Result.{err_from_is_err_and}
use Rattle.answer.specs.Answer.{Answer, answered, and_then}
use Rattle.answer.proofs.Refusals.{right_where, value_where, cause_where}
use Rattle.book.specs.Reading.{variables_of, groups_of, wrong_header}
use Rattle.book.specs.Check.{checking}
use Rattle.book.proofs.Counting.{answer_of}
use Rattle.book.proofs.Tests.{header_ok}
use Rattle.book.proofs.Checks.{check_long, check_bad, check_counted, check_book}
use Rattle.book.proofs.check.Goals as goal
use Rattle.book.proofs.check.Goals.{In_ok-header}

-- where the header is right
right : (c : In_ok-header) → wrong_header c.args.bytes.now ≡ 0
right c = sym c.test_header.ensures.wrong ∙ right_where _ c.in_ok-header.ensures.variant

-- ... what the clauses are counted to is the answer
counted : (c : In_ok-header)
    → let s = c.args.bytes.now in
    let h = c.in_ok-header.header in
    (a : Answer ℕ) → a ≡ answer_of h.variables h.groups s → and_then a (λ n. answered (h.variables ∷ h.groups ∷ n ∷ [])) ≡ checking s
counted c =
    let s = c.args.bytes.now in
    let h = value_where _ _ _ (λ h. (h.variables ≡ variables_of s) × (h.groups ≡ groups_of s)) c.in_ok-header.ensures.variant c.in_ok-header.ensures.cases c.test_header.ensures.header in
    check_counted s c.if-bytes-gt-MOST_BYTES.false (right c) _ _ h.0 h.1

pub returns-then-bytes-gt-MOST_BYTES-clause-checked : goal.returns-then-bytes-gt-MOST_BYTES-clause-checked
returns-then-bytes-gt-MOST_BYTES-clause-checked c = simp (c.at.ensures.0, c.at.ensures.1) (check_long _ c.if-bytes-gt-MOST_BYTES.true)

pub returns-in_err-header-clause-checked : goal.returns-in_err-header-clause-checked
returns-in_err-header-clause-checked c =
    let p = err_from_is_err_and c.from_residual.result c.from_residual.ensures.1 in
    let q = cause_where c.test_header.result c.in_err-header.field-0.0 0 _ c.in_err-header.ensures.cases (λ e h. search rules) in
    rw (p.1, p.2, q.1) (check_bad _ c.if-bytes-gt-MOST_BYTES.false _ (sym q.0 ∙ c.test_header.ensures.wrong))

pub count_clauses-requires : goal.count_clauses-requires
count_clauses-requires c =
    let k = header_ok _ (right c) in
    omega (arith, k.fits, k.four)

pub returns-in_err-clauses-clause-checked : goal.returns-in_err-clauses-clause-checked
unfolding and_then
returns-in_err-clauses-clause-checked c =
    let p = err_from_is_err_and c.from_residual-in_err-clauses.result c.from_residual-in_err-clauses.ensures.1 in
    rw (p.1, p.2) (counted (goal.at.returns-in_err-clauses-clause-checked c).In_ok-header _ c.in_err-clauses.ensures)

pub invariant_of-result : goal.invariant_of-result
unfolding and_then
invariant_of-result c =
    let k = check_book _ _ _ _ (λ i. (c.type_inv.bytes i).fits) (counted (goal.at.invariant_of-result c).In_ok-header _ c.in_ok-clauses.ensures) in
    record { accepted = k.accepted; variables_are = k.variables; groups_are = k.groups; clauses_are = k.clauses }

pub returns-clause-checked : goal.returns-clause-checked
unfolding and_then
returns-clause-checked c = counted (goal.at.returns-clause-checked c).In_ok-header _ c.in_ok-clauses.ensures
