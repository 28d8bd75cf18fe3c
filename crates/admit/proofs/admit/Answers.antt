-- `admit::admit` meets its contract: the book's refusals, then 10.
-- Assumes nothing.
use mathlib.Core.Path.{refl, sym, ap}
use native.Mathlib.Omega.{arith}
use Rattle.std.proofs.lemmas.Result.{err_from_is_err_and}
use Rattle.book.proofs.Checks.{check_refused}
use Rattle.book.proofs.Walk.{found}
use Rattle.admit.proofs.Admits.{admit_refused, admit_lacks, admit_has}
use Rattle.admit.proofs.admit.Goals as goal

pub returns-in_err-book-clause-admitted : goal.returns-in_err-book-clause-admitted
returns-in_err-book-clause-admitted c =
    let p = err_from_is_err_and c.from_residual.result c.from_residual.ensures.1 in
    rw (p.1, p.2) (sym (admit_refused _ _ _ _ (check_refused _ _ _ c.in_err-book.ensures.checked)))

pub lacking-requires : goal.lacking-requires
lacking-requires c = let b = c.in_ok-book.book in omega (arith, b.groups_are, (found b).groups)

pub returns-in-None-clause-admitted : goal.returns-in-None-clause-admitted
returns-in-None-clause-admitted c = sym (admit_has c.in_ok-book.book _ (ap (λ r. r.now) c.in_ok-book.ensures.same) _ _ c.in-None.ensures.lowest refl)

pub returns-in-Some-clause-admitted : goal.returns-in-Some-clause-admitted
returns-in-Some-clause-admitted c =
    simp (c.at.ensures.0, c.at.ensures.1)
    (sym (admit_lacks c.in_ok-book.book _ (ap (λ r. r.now) c.in_ok-book.ensures.same) _ _ c.in-Some.ensures.lowest (λ e. omega (arith, e, c.in-Some.ensures.group))))
