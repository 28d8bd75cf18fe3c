-- `levels::carry` meets its contract. The loop's invariant: the levels so far are carried on, and the others as they were.
-- Assumes nothing.
use mathlib.Core.Path.{◌≡◌}
use mathlib.Core.List.{◌++◌}
use lib.ListN.{take, drop}
use Rattle.levels.specs.Levels.{carried}
use Rattle.levels.proofs.carry.Given as goal

abbrev pub invariant-loop-level : goal.invariant-loop-level
invariant-loop-level l = l.levels ≡ take l.level-index (carried l.group l.initial.levels) ++ drop l.level-index l.initial.levels
