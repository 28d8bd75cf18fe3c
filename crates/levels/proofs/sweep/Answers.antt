-- What `levels::sweep` leaves open, from the laws.
-- Assumes nothing.
use mathlib.Core.Path.{ap, ◌∙◌}
use native.Mathlib.Omega.{arith}
use Rattle.std.proofs.Common.{rules}
use Rattle.book.specs.Clauses.{clauses_left}
use Rattle.book.proofs.Walk.{found}
use Rattle.levels.proofs.Walks.{sweeping_start, sweeping_fits, sweeping_next, sweeping_end}
use Rattle.levels.proofs.Totals.{total_le}
use Rattle.levels.proofs.sweep.Goals as goal

pub loop-clause-init : goal.loop-clause-init
loop-clause-init c = sweeping_start _ _ _ _ (found c.args.book.now) _ (ap clauses_left c.into_iter-clause-iterator.ensures.into_iter_gives ∙ c.walk-clause-items.ensures.left)

pub turn-fell-requires-clause-fits : goal.turn-fell-requires-clause-fits
turn-fell-requires-clause-fits c = (sweeping_fits _ _ _ _ _ _ _ c.loop-clause.invariant _ _ c.in-Some.ensures.steps.0 (found c.args.book.now) c.requires).0

pub turn-fell-requires-clause-head : goal.turn-fell-requires-clause-head
turn-fell-requires-clause-head c = (sweeping_fits _ _ _ _ _ _ _ c.loop-clause.invariant _ _ c.in-Some.ensures.steps.0 (found c.args.book.now) c.requires).1

pub overflow_add-fell : goal.overflow_add-fell
overflow_add-fell c =
    omega (arith, c.loop-clause.invariant.count, c.turn-fell.ensures.fell, total_le c.args.levels.now (λ i. search rules), c.requires, (found c.args.book.now).variables)

pub loop-clause-preserved : goal.loop-clause-preserved
loop-clause-preserved c = sweeping_next _ _ _ _ _ _ _ c.loop-clause.invariant _ _ c.in-Some.ensures.steps.0 _ _ c.turn-fell.ensures.levels c.turn-fell.ensures.fell

pub returns-clause-levels : goal.returns-clause-levels
returns-clause-levels c = (sweeping_end _ _ _ _ _ _ _ c.loop-clause.invariant c.in-None.ensures.steps.0.0).0

pub returns-clause-fell : goal.returns-clause-fell
returns-clause-fell c = (sweeping_end _ _ _ _ _ _ _ c.loop-clause.invariant c.in-None.ensures.steps.0.0).1
