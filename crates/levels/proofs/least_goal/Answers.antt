-- What `levels::least_goal` leaves open, from the laws.
-- Assumes nothing.
use mathlib.Core.Path.{ap, ◌∙◌}
use Rattle.book.specs.Clauses.{clauses_left}
use Rattle.book.proofs.Walk.{found}
use Rattle.levels.proofs.Walks.{seeking_start, seeking_fits, seeking_next, seeking_end}
use Rattle.levels.proofs.least_goal.Goals as goal

pub loop-clause-init : goal.loop-clause-init
loop-clause-init c = seeking_start _ _ _ _ (found c.args.book.now) _ (ap clauses_left c.into_iter-clause-iterator.ensures.into_iter_gives ∙ c.walk-clause-items.ensures.left)

pub goal_turn-least-requires : goal.goal_turn-least-requires
goal_turn-least-requires c = seeking_fits _ _ _ _ _ _ c.loop-clause.invariant _ _ c.in-Some.ensures.steps.0 (found c.args.book.now) c.requires

pub loop-clause-preserved : goal.loop-clause-preserved
loop-clause-preserved c = seeking_next _ _ _ _ _ _ c.loop-clause.invariant _ _ c.in-Some.ensures.steps.0 _ c.goal_turn-least.ensures

pub returns : goal.returns
returns c = seeking_end _ _ _ _ _ _ c.loop-clause.invariant c.in-None.ensures.steps.0.0
