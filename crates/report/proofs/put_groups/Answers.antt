-- What `report::put_groups` leaves open, from the laws.
use mathlib.Core.Path.{◌≡◌, sym, ap, ◌∙◌, subst}
use native.Mathlib.Omega.{arith}
use Prim.Native.Nat.{◌-◌}
use lib.Count.{count_leading_zeros}
use Rattle.answer.proofs.Spaces.{Writing, writing_start, writing_room, writing_next, writing_end}
use Rattle.report.specs.Text.{numbers, groups_of}
use Rattle.report.proofs.Digits.{left, left_all, left_more, left_room, left_none}
use Rattle.report.proofs.put_groups.Goals as goal

pub loop-group-init : goal.loop-group-init
loop-group-init c = subst (λ (xs : _). Writing (numbers (groups_of c.args.set)) c.args.out.now c.args.at c.args.out.now c.args.at xs) (sym (left_all c.args.set)) (writing_start _ _ _)

pub put_member-i-requires : goal.put_member-i-requires
put_member-i-requires c = let l = c.loop-group in
    (omega arith, omega (arith, writing_room _ _ _ _ _ _ l.invariant c.requires, left_room c.args.set l.group))

pub loop-group-preserved : goal.loop-group-preserved
loop-group-preserved c = writing_next _ _ _ _ _ _ c.loop-group.invariant _ _ _ _ (left_more _ _) c.put_member-i.ensures

pub returns : goal.returns
returns c =
    let e : c.loop-group.group ≡ 32 - count_leading_zeros 32 c.args.set = omega arith in
    writing_end _ _ _ _ _ _ c.loop-group.invariant (ap (left c.args.set) e ∙ left_none c.args.set c.ranges.set.fits)
