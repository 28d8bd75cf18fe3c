-- `levels::groups_level` meets its contract. The loop's invariant: the groups that are left decide, with the greatest level so far.
-- Assumes nothing.
use mathlib.Core.Path.{◌≡◌}
use mathlib.Core.Bool.{true}
use Rattle.field.specs.Left.{words_left}
use Rattle.field.specs.Words.{words, within}
use Rattle.book.specs.Bytes.{most_groups}
use Rattle.levels.specs.Levels.{group_level, greatest}
use Rattle.levels.proofs.groups_level.Given as goal

abbrev pub invariant-loop-group : goal.invariant-loop-group
invariant-loop-group l =
    (greatest (group_level l.arrivals.kept l.arrivals.pool) 0 (words l.clause.groups.now) ≡ greatest (group_level l.arrivals.kept l.arrivals.pool) l.most (words_left l.group-iterator))
    × (within 0 most_groups (words_left l.group-iterator) ≡ true)
