-- `forcing::mark_all` meets its contract. The loop's invariant: the levels so far are marks, and the others as they were.
-- Assumes nothing.
use mathlib.Core.Path.{◌≡◌}
use mathlib.Core.List.{◌++◌}
use lib.ListN.{take, drop}
use Rattle.levels.specs.Levels.{marks_at}
use Rattle.forcing.proofs.mark_all.Given as goal

abbrev pub invariant-loop-level : goal.invariant-loop-level
invariant-loop-level l = l.levels ≡ take l.level-index (marks_at 0 l.initial.levels) ++ drop l.level-index l.initial.levels
