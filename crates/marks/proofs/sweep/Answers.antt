-- What `marks::sweep` leaves open, from the laws.
-- Assumes nothing.
use Prim.Native.Nat.{◌+◌}
use mathlib.Core.Path.{sym, ap, ◌∙◌}
use mathlib.Core.Bool.{cond}
use native.Mathlib.Omega.{arith}
use Rattle.book.specs.Clauses.{clauses_left}
use Rattle.book.proofs.Walk.{found}
use Rattle.meaning.specs.Marks.{unmarked}
use Rattle.meaning.proofs.Marks.{unmarked_le}
use Rattle.marks.proofs.Walks.{sweeping_start, sweeping_fits, sweeping_next, sweeping_end}
use Rattle.marks.proofs.sweep.Goals as goal

pub loop-clause-init : goal.loop-clause-init
loop-clause-init c = sweeping_start _ _ _ (found c.args.book.now) _ (ap clauses_left c.into_iter-clause-iterator.ensures.into_iter_gives ∙ c.walk-clause-items.ensures.left)

pub mark_clause-requires-clause-fits : goal.mark_clause-requires-clause-fits
mark_clause-requires-clause-fits c = (sweeping_fits _ _ _ _ _ _ c.loop-clause.invariant _ _ c.in-Some.ensures.steps.0 (found c.args.book.now) c.requires).0

pub mark_clause-requires-clause-head : goal.mark_clause-requires-clause-head
mark_clause-requires-clause-head c = (sweeping_fits _ _ _ _ _ _ c.loop-clause.invariant _ _ c.in-Some.ensures.steps.0 (found c.args.book.now) c.requires).1

pub overflow_add-n : goal.overflow_add-n
overflow_add-n c =
    let one = ap (λ t. cond t 1 0 + unmarked c.mark_clause.new.marks) (sym c.if-mark_clause.true) ∙ c.mark_clause.ensures.count in
    omega (arith, c.loop-clause.invariant.count, one, unmarked_le c.args.marks.now, c.requires, (found c.args.book.now).variables)

pub loop-clause-preserved : goal.loop-clause-preserved
loop-clause-preserved c =
    let none = ap (λ t. cond t 1 0 + unmarked c.mark_clause.new.marks) (sym c.if-mark_clause.false) ∙ c.mark_clause.ensures.count in
    sweeping_next _ _ _ _ _ _ c.loop-clause.invariant _ _ c.in-Some.ensures.steps.0 _ _ c.mark_clause.ensures.marks (omega (arith, none))

pub loop-clause-preserved-then-mark_clause : goal.loop-clause-preserved-then-mark_clause
loop-clause-preserved-then-mark_clause c =
    let one = ap (λ t. cond t 1 0 + unmarked c.mark_clause.new.marks) (sym c.if-mark_clause.true) ∙ c.mark_clause.ensures.count in
    sweeping_next _ _ _ _ _ _ c.loop-clause.invariant _ _ c.in-Some.ensures.steps.0 _ _ c.mark_clause.ensures.marks (omega (arith, one))

pub returns-clause-marks : goal.returns-clause-marks
returns-clause-marks c = (sweeping_end _ _ _ _ _ _ c.loop-clause.invariant c.in-None.ensures.steps.0.0).0

pub returns-clause-count : goal.returns-clause-count
returns-clause-count c = (sweeping_end _ _ _ _ _ _ c.loop-clause.invariant c.in-None.ensures.steps.0.0).1
