-- The parts of the field that stands first spell its clause.
-- Assumes nothing.
use native.Mathlib.Omega.{arith}
use Prim.Native.Nat.{◌-◌}
use Rattle.std.proofs.Common.{rules}
use Rattle.field.specs.Field.{size}
use Rattle.field.proofs.Parts.{part_length}
use Rattle.book.proofs.Left.{parts_spell}
use Rattle.book.proofs.Turns.{Places, places, front_end}
use Rattle.book.proofs.first.first_clause.Goals as goal
use Rattle.book.proofs.first.first_clause.Goals.{In-Clause}

lies : (c : In-Clause) → let p = c.in-Clause in Places c.args.rest.now p.groups p.head p.body p.size
lies c = places _ _ _ _ _ (search rules)

pub unreachable-requires : goal.unreachable-requires
unreachable-requires c = let e = front_end c.args.rest.now (search rules) in absurd (omega (arith, e, c.requires))

pub overflow_sub-groups : goal.overflow_sub-groups
overflow_sub-groups c = let p = lies c in omega (arith, p.body)

pub slice_bounds-groups-count : goal.slice_bounds-groups-count
slice_bounds-groups-count c = let p = lies c in omega (arith, p.groups, p.body)

pub slice_bounds-groups-start : goal.slice_bounds-groups-start
slice_bounds-groups-start c = let p = lies c in omega (arith, p.groups, p.body, c.requires)

pub slice_bounds-groups-end : goal.slice_bounds-groups-end
slice_bounds-groups-end c = let p = lies c in omega (arith, p.groups, p.body, c.requires)

pub slice_bounds-body-count : goal.slice_bounds-body-count
slice_bounds-body-count c = let p = lies (goal.at.slice_bounds-body-count c).In-Clause in omega (arith, p.body, p.ends, c.requires)

pub slice_bounds-body-start : goal.slice_bounds-body-start
slice_bounds-body-start c = let p = lies (goal.at.slice_bounds-body-start c).In-Clause in omega (arith, p.body, p.ends, c.requires)

pub slice_bounds-body-end : goal.slice_bounds-body-end
slice_bounds-body-end c = let p = lies (goal.at.slice_bounds-body-end c).In-Clause in omega (arith, p.body, p.ends, c.requires)

pub returns-clause-clause : goal.returns-clause-clause
returns-clause-clause c =
    let p = lies (goal.at.returns-clause-clause c).In-Clause in
    let q = c.requires in
    parts_spell c.args.rest.now q.0 q.1 _ _ _ (simp (p.groups, p.body)) (search (rules, p.head)) (simp (p.body, p.ends))

pub returns-clause-size : goal.returns-clause-size
returns-clause-size c =
    let p = lies (goal.at.returns-clause-size c).In-Clause in
    let r = c.args.rest.now in
    simp (p.groups, p.body, p.ends) (omega (arith, part_length r 3 2 (omega (arith, c.requires)), part_length r 7 (size r - 7) (omega (arith, c.requires)), c.requires))

pub returns-clause-groups : goal.returns-clause-groups
returns-clause-groups c = let p = lies (goal.at.returns-clause-groups c).In-Clause in simp (p.groups, p.body)

pub returns-clause-body : goal.returns-clause-body
returns-clause-body c = let p = lies (goal.at.returns-clause-body c).In-Clause in simp (p.body, p.ends)
