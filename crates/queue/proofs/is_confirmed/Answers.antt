-- `queue::is_confirmed` meets its contract: each way to `true` is a level that is confirmed.
-- Assumes nothing.
use Prim.Native.Nat.{◌-◌}
use mathlib.Core.Path.{◌≡◌, sym, ◌∙◌}
use mathlib.Core.Logic.{◌⊎◌, inl, inr}
use mathlib.Core.Bool.{true}
use native.Mathlib.Omega.{arith}
use lib.ListN.{take}
use Rattle.book.specs.Clauses.{meant}
use Rattle.book.proofs.Walk.{found}
use Rattle.marks.proofs.Walks.{heads}
use Rattle.levels.specs.Levels.{up_to, closed_below, granted, GoalLevel}
use Rattle.levels.proofs.Confirming.{closed_for, confirmed}
use Rattle.lists.proofs.Stores.{front_long}
use Rattle.table.proofs.Stores.{sized, room, front_levels}
use Rattle.queue.proofs.is_confirmed.Goals as goal
use Rattle.queue.proofs.is_confirmed.Goals.{Joined-else-level-lt-NEVER, else-level-lt-NEVER-via-else-level-lt-NEVER, else-level-lt-NEVER-via-then-level-lt-NEVER+else-not-breaks}

-- a goal has the level, or it is NEVER; the clauses are to let those below it stand
confirm : (c : Joined-else-level-lt-NEVER)
    → let a = c.args in
    let b = meant a.book.now in
    let k = a.arrivals.kept in
    let p = a.arrivals.pool in
    let f = granted (take a.book.now.variables a.work.now) in
    let r = a.level in
    (r ≡ 0) ⊎ (closed_below (up_to k p (r - 1)) r f b.clauses ≡ true) → GoalLevel b k p r
confirm c stand =
    let b = c.args.book.now in
    confirmed _ _ _ _ _ c.requires.apart (heads _ (found b)) (front_levels _ _ _ (sized b) _ _ _ c.requires.ready) (omega (arith, c.if-level-gt-NEVER.false))
    (elim c.else-level-lt-NEVER.branch [
      | else-level-lt-NEVER-via-then-level-lt-NEVER+else-not-breaks w ↦ inr (w.breaks.ensures w.if-not-breaks.false)
      | else-level-lt-NEVER-via-else-level-lt-NEVER w ↦ inl (omega (arith, w.if-level-lt-NEVER.false, c.if-level-gt-NEVER.false))
    ])
    stand

pub returns-then-level-eq0 : goal.returns-then-level-eq0
returns-then-level-eq0 c = λ e. confirm (goal.at.returns-then-level-eq0 c).Joined-else-level-lt-NEVER (inl c.if-level-eq0.true)

pub slice_bounds-is_closed-end : goal.slice_bounds-is_closed-end
slice_bounds-is_closed-end c = sym (front_long _ _ _ (room _ _ _ (sized c.args.book.now) _ c.requires.ready.room))

pub is_closed-requires : goal.is_closed-requires
is_closed-requires c =
    let b = c.args.book.now in
    (front_long _ _ _ (room _ _ _ (sized b) _ c.requires.ready.room) ∙ b.variables_are, omega (arith, c.if-level-eq0.false))

pub returns : goal.returns
returns c = λ e. confirm (goal.at.returns c).Joined-else-level-lt-NEVER (inr (closed_for _ _ _ _ _ _ c.choice_below-choice.ensures c.is_closed.ensures e))
