-- `levels::clause_level` meets its contract.
-- Assumes nothing.
use Prim.Native.Nat.{min}
use mathlib.Core.Path.{ap, ◌∙◌}
use Rattle.field.specs.Words.{words}
use Rattle.levels.specs.Levels.{level_of, greatest}
use Rattle.levels.proofs.clause_level.Goals as goal

pub returns : goal.returns
returns c = let a = c.args in
    c.body_level.ensures ∙ ap (λ m. min a.cap (greatest (level_of a.levels.now) m (words a.clause.now.body.now))) c.groups_level.ensures
