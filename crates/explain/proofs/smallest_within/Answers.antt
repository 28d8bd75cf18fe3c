-- What `explain::smallest_within` leaves open, from the laws.
use Prim.Native.Nat.{ℕ, ◌-◌, ◌^◌}
use mathlib.Core.Path.{◌≡◌, ap, ◌∙◌}
use native.Mathlib.Omega.{arith}
use Rattle.book.specs.Clauses.{meant}
use Rattle.table.proofs.Stores.{kept_none}
use Rattle.explain.proofs.Passes.{Next, none_apart, within_none, inserting_start, inserting_next, inserting_end, next_apart, next_kept, next_again, next_falls, kept_after}
use Rattle.explain.proofs.smallest_within.Goals as goal
use Rattle.explain.proofs.smallest_within.Goals.{After-transition-group, After-weight-w}

-- a pass begins
next : (c : After-transition-group) → let l = c.loop-level in Next (meant c.args.book.now) c.args.choice l.now.kept l.now.pool l.level
next c = inserting_next c.args.book.now _ c.requires.0 _ _ _ c.loop-level.invariant.1 c.loop-level-test.true

-- its group is the level, with the weight that goes with it
own : (c : After-transition-group) → c.transition-group.result ≡ c.loop-level.level
own c = c.transition-group.ensures ∙ (next c).own

size : (c : After-weight-w) → c.transition-group.result ≡ c.loop-level.level → c.weight-w.result ≡ 2 ^ (c.loop-level.level - 1)
size c o = c.weight-w.ensures ∙ ap (λ (g : ℕ). 2 ^ (g - 1)) o

pub goal_level-level-requires : goal.goal_level-level-requires
goal_level-level-requires c = record { apart = none_apart _; ready = c.lay.ensures.ready }

pub returns-then-book-level : goal.returns-then-book-level
returns-then-book-level c =
    let g = c.goal_level-level.ensures in
    (within_none c.args.book.now _ c.requires.0 _ g.0 c.if-book-level.true, g.1.rest ∙ c.lay.ensures.rest)

pub loop-level-init : goal.loop-level-init
loop-level-init c =
    let g = c.goal_level-level.ensures in
    (kept_none _ _ _ _ g.1.ready, inserting_start c.args.book.now _ c.requires.0 _ g.0 c.if-book-level.false)

pub weight-w-requires : goal.weight-w-requires
weight-w-requires c = (omega (arith, (next c).some, own c), omega (arith, (next c).most, own c))

pub overflow_add-now : goal.overflow_add-now
overflow_add-now c =
    let g = goal.at.overflow_add-now c in
    let t = g.After-transition-group in
    omega (arith, (next t).fits, size g.After-weight-w (own t), c.ranges.choice)

pub keep-requires : goal.keep-requires
keep-requires c =
    let t = (goal.at.keep-requires c).After-transition-group in
    (omega (arith, (next t).some, own t), omega (arith, (next t).most, own t), c.loop-level.invariant.0.ready.room)

-- the working space after the pass, ready for what is kept and left then
pub goal_level-level-requires-in-loop-level : goal.goal_level-level-requires-in-loop-level
goal_level-level-requires-in-loop-level c =
    let g = goal.at.goal_level-level-requires-in-loop-level c in
    let t = g.After-transition-group in
    let z = size g.After-weight-w (own t) in
    record {
      apart = next_apart _ _ _ _ _ (next t) _ z;
      ready = (next_kept c.args.book.now _ _ _ _ _ _ (c.of.ensures.variables, c.of.ensures.clauses) (next t) _ z _ _ _ (own t) c.keep.ensures c.loop-level.invariant.0.ready).ready;
    }

pub loop-level-smaller : goal.loop-level-smaller
loop-level-smaller c =
    let g = goal.at.loop-level-smaller c in
    let t = g.After-transition-group in
    next_falls _ _ _ _ _ (next t) _ (size g.After-weight-w (own t)) _ c.goal_level-level-in-loop-level.ensures.0

pub loop-level-preserved : goal.loop-level-preserved
loop-level-preserved c =
    let g = goal.at.loop-level-preserved c in
    let t = g.After-transition-group in
    let n = next t in
    let z = size g.After-weight-w (own t) in
    let r = c.goal_level-level-in-loop-level.ensures in
    let i = c.loop-level.invariant.0 in
    let k = next_kept c.args.book.now _ _ _ _ _ _ (c.of.ensures.variables, c.of.ensures.clauses) n _ z _ _ _ (own t) c.keep.ensures i.ready in
    (kept_after _ _ _ _ _ _ _ _ (kept_after _ _ _ _ _ _ _ _ i k) r.1, next_again _ _ _ _ _ n _ z _ r.0)

pub returns : goal.returns
returns c =
    let i = c.loop-level.invariant in
    (inserting_end c.args.book.now _ c.requires.0 _ _ _ i.1 c.loop-level-test.false, i.0.rest ∙ c.goal_level-level.ensures.1.rest ∙ c.lay.ensures.rest)
