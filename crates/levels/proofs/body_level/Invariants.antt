-- `levels::body_level` meets its contract. The loop's invariant: the variables that are left decide, with the greatest level so far.
-- Assumes nothing.
use mathlib.Core.Path.{◌≡◌}
use mathlib.Core.Bool.{true}
use lib.ListN.{length}
use Rattle.field.specs.Left.{words_left}
use Rattle.field.specs.Words.{words, within}
use Rattle.levels.specs.Levels.{level_of, greatest}
use Rattle.levels.proofs.body_level.Given as goal

abbrev pub invariant-loop-variable : goal.invariant-loop-variable
invariant-loop-variable l =
    (greatest (level_of l.levels) l.from (words l.body) ≡ greatest (level_of l.levels) l.most (words_left l.variable-iterator))
    × (within 1 (length l.levels) (words_left l.variable-iterator) ≡ true)
