-- `admit::lacking` meets its contract. The loop keeps: no group up to g is lacking.
-- Assumes nothing.
use mathlib.Core.Path.{◌≡◌}
use Rattle.admit.specs.Admits.{lacking}
use Rattle.admit.proofs.lacking.Given as goal

abbrev pub invariant-loop-g : goal.invariant-loop-g
invariant-loop-g l = lacking l.groups l.choice ≡ lacking l.g l.choice
