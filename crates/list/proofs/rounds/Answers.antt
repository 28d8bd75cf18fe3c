-- What `list::rounds` leaves open, from the laws.
use Prim.Native.Nat.{ℕ, ◌+◌, ◌-◌, ◌≤◌}
use mathlib.Core.Path.{◌≡◌, ap, ◌∙◌}
use mathlib.Core.List.{List}
use native.Mathlib.Omega.{arith}
use lib.ListN.{length, take, drop, length-drop}
use Rattle.field.proofs.Parts.{part_end}
use Rattle.book.proofs.Walk.{found}
use Rattle.admit.specs.Admits.{work_words}
use Rattle.seek.specs.Paths.{sought_is}
use Rattle.list.proofs.Adding.{going_start, going_seed, added_falls, going_more, going_done, going_full}
use Rattle.list.proofs.rounds.Goals as goal

-- the seeds have their words behind the rest
behind : (at : ℕ) (w : List ℕ) → at + 1024 ≤ 8192 → length w ≡ work_words → (33 ≤ length (take (length w - at) (drop at w))) × (length (take (length w - at) (drop at w)) ≤ 8192)
behind at w h e = let q = ap length (part_end w at) in (omega (arith, q, length-drop at w), omega (arith, q, length-drop at w))

pub seek-sought-requires : goal.seek-sought-requires
seek-sought-requires c =
    let p = c.requires in
    let b = c.args.book.now in
    let l = behind c.end-at.result c.leave_aside.new.work c.end-at.ensures (c.leave_aside.auto.work ∙ p.0) in
    (omega (arith, p.1, p.2), omega (arith, b.groups_are, (found b).groups), l.0, l.1)

pub loop-sought-init : goal.loop-sought-init
loop-sought-init c = let p = c.requires in going_start _ _ _ _ _ c.args.book.now.groups_are p.2 _ p.1 p.3 c.seek-sought.ensures

pub returns-then-most-written : goal.returns-then-most-written
unfolding sought_is
returns-then-most-written c = going_full _ _ _ _ _ c.args.book.now.groups_are c.requires.2 _ _ _ c.loop-sought.invariant _ (ap sought_is c.in-Some.is) c.if-most-written.true

pub add-requires : goal.add-requires
unfolding sought_is
add-requires c =
    let p = c.requires in
    let l = c.loop-sought in (
      going_seed _ _ _ _ _ c.args.book.now.groups_are p.2 _ _ _ l.invariant _ (ap sought_is c.in-Some.is),
      omega (arith, c.if-most-written.false, p.2, l.auto.records),
      omega (arith, l.auto.work, c.leave_aside.auto.work, p.0),
    )

pub seek_below-sought-requires : goal.seek_below-sought-requires
unfolding sought_is
seek_below-sought-requires c =
    let p = c.requires in
    let b = c.args.book.now in
    let l = c.loop-sought in
    let e = ap sought_is c.in-Some.is in
    let a = c.add in
    let m = c.if-most-written.false in
    let w = behind c.end-at.result a.new.work c.end-at.ensures (omega (arith, a.auto.work, l.auto.work, c.leave_aside.auto.work, p.0)) in (
      omega (arith, m, p.2, a.auto.records, l.auto.records),
      omega (arith, b.groups_are, (found b).groups),
      going_seed _ _ _ _ _ b.groups_are p.2 _ _ _ l.invariant _ e,
      added_falls _ _ _ _ _ b.groups_are p.2 _ _ _ l.invariant _ e m _ a.ensures,
      w.0,
      w.1,
    )

pub loop-sought-preserved : goal.loop-sought-preserved
unfolding sought_is
loop-sought-preserved c =
    going_more _ _ _ _ _ c.args.book.now.groups_are c.requires.2 _ _ _ c.loop-sought.invariant _ (ap sought_is c.in-Some.is) c.if-most-written.false _ c.add.ensures
    _ c.seek_below-sought.ensures

pub returns : goal.returns
unfolding sought_is
returns c = going_done _ _ _ _ _ c.args.book.now.groups_are c.requires.2 _ _ _ c.loop-sought.invariant (ap sought_is c.in_default.is)
