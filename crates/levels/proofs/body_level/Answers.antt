-- What `levels::body_level` leaves open, from the laws.
-- Assumes nothing.
use Prim.Native.Nat.{◌≤◌, max, min}
use mathlib.Core.Path.{◌≡◌, sym, ap, ◌∙◌}
use mathlib.Core.Bool.{true}
use native.Mathlib.Omega.{arith}
use lib.ListN.{length}
use Rattle.field.specs.Left.{words_left}
use Rattle.field.specs.Words.{within}
use Rattle.marks.proofs.Tests.{within_first}
use Rattle.levels.specs.Levels.{level_of}
use Rattle.levels.proofs.Turns.{greatest_none, greatest_next, level_at, capped}
use Rattle.levels.proofs.body_level.Goals as goal
use Rattle.levels.proofs.body_level.Goals.{In-Some}

-- the first variable that is left is one of the book's, and so are the others
first : (c : In-Some)
    → let n = length c.args.levels.now in
    (1 ≤ c.in-Some.variable) × (c.in-Some.variable ≤ n) × (within 1 n (words_left c.next.new.self) ≡ true)
first c = within_first _ _ _ c.in-Some.ensures.steps _ _ c.loop-variable.invariant.1

pub returns-then-cap-most : goal.returns-then-cap-most
returns-then-cap-most c = capped _ _ _ _ c.if-cap-most.true ∙ ap (min _) (sym c.loop-variable.invariant.0)

pub overflow_sub-variable : goal.overflow_sub-variable
overflow_sub-variable c = (first (goal.at.overflow_sub-variable c).In-Some).0

pub bounds-levels-variable : goal.bounds-levels-variable
bounds-levels-variable c = let k = first (goal.at.bounds-levels-variable c).In-Some in omega (arith, k.0, k.1)

pub loop-variable-preserved : goal.loop-variable-preserved
loop-variable-preserved c = let k = first (goal.at.loop-variable-preserved c).In-Some in (
  c.loop-variable.invariant.0 ∙ greatest_next _ _ _ c.in-Some.ensures.steps _ _ _ (c.max-most.ensures ∙ ap (max _) (level_at _ _ k.0 k.1)),
  k.2,
)

pub returns : goal.returns
returns c = c.min.ensures ∙ omega (arith, c.loop-variable.invariant.0, greatest_none (level_of c.args.levels.now) c.loop-variable.most _ c.in-None.ensures.steps.0)
