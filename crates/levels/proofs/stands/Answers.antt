-- `levels::stands` meets its contract.
-- Assumes nothing.
use mathlib.Core.Path.{sym, ◌∙◌}
use native.Mathlib.Omega.{arith}
use Rattle.levels.proofs.Granting.{stands_out, stands_below, stands_held, head_none, head_above}
use Rattle.levels.proofs.stands.Goals as goal
use Rattle.levels.proofs.stands.Goals.{else-clause-gt0, then-clause-gt0+else-grant-bound}

pub returns-then-not-in_force : goal.returns-then-not-in_force
returns-then-not-in_force c = stands_out _ _ _ _ (sym c.in_force.ensures ∙ c.if-not-in_force.true)

pub returns-then-grant-bound : goal.returns-then-grant-bound
returns-then-grant-bound c = stands_below _ _ _ _ c.if-clause-gt0.true c.requires.head (omega (arith, c.if-grant-bound.true, c.grant.ensures))

pub returns : goal.returns
returns c = c.is_held.ensures
    ∙ stands_held _ _ _ _
    (sym c.in_force.ensures ∙ c.if-not-in_force.false)
    (elim c.if-clause-gt0.branch [
      | then-clause-gt0+else-grant-bound w ↦ head_above _ _ _ w.if-clause-gt0.true c.requires.head (omega (arith, w.if-grant-bound.false, w.grant.ensures))
      | else-clause-gt0 w ↦ head_none _ _ _ w.if-clause-gt0.false
    ])
