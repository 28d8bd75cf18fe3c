-- `text_writer::put_clause` meets its contract: four runs of stores, one after the other.
-- Assumes nothing.
use Prim.Native.Nat.{◌+◌, ◌≤◌}
use mathlib.Core.Path.{sym}
use native.Mathlib.Omega.{arith}
use lib.ListN.{length}
use Rattle.answer.proofs.Spaces.{wrote_length}
use Rattle.field.specs.Words.{words}
use Rattle.decimal.specs.Digits.{number}
use Rattle.text.specs.Writing.{body_text, head_text}
use Rattle.text.proofs.Written.{group_length}
use Rattle.text_writer.proofs.Putting.{clause_size, clause_wrote}
use Rattle.text_writer.proofs.put_clause.Goals as goal
use Rattle.text_writer.proofs.put_clause.Goals.{After-group_of}

-- there is room for each part
fits : (c : After-group_of)
    → let k = c.args.clause.now in
    c.args.at + (length (number c.group_of.result) + length (body_text (words k.body.now)) + length (head_text k.head) + 5) ≤ length c.args.out.now
fits c = let k = c.args.clause.now in
    omega (arith, c.requires, clause_size (words k.groups.now) k.head (words k.body.now) _ (sym c.group_of.ensures))

pub put_group-a-requires : goal.put_group-a-requires
put_group-a-requires c = omega (arith, fits (goal.at.put_group-a-requires c).After-group_of)

pub put_body-b-requires : goal.put_body-b-requires
put_body-b-requires c = let g = c.put_group-a.ensures in
    omega (arith, fits (goal.at.put_body-b-requires c).After-group_of, g.place, group_length c.group_of.result, wrote_length _ _ _ _ _ g)

pub put_head-c-requires : goal.put_head-c-requires
put_head-c-requires c = let g = c.put_group-a.ensures in
    let w = c.put_body-b.ensures in
    omega (arith, fits (goal.at.put_head-c-requires c).After-group_of, g.place, group_length c.group_of.result, wrote_length _ _ _ _ _ g, w.place, wrote_length _ _ _ _ _ w)

pub put_text-requires : goal.put_text-requires
put_text-requires c = let g = c.put_group-a.ensures in
    let w = c.put_body-b.ensures in
    let h = c.put_head-c.ensures in
    omega (
      arith,
      fits (goal.at.put_text-requires c).After-group_of,
      g.place,
      group_length c.group_of.result,
      wrote_length _ _ _ _ _ g,
      w.place,
      wrote_length _ _ _ _ _ w,
      h.place,
      wrote_length _ _ _ _ _ h,
    )

pub returns : goal.returns
returns c = clause_wrote _ _ _ _ _ _ _ _ _ _ _ _ _ _ (sym c.group_of.ensures)
    c.put_group-a.ensures c.put_body-b.ensures c.put_head-c.ensures c.put_text.ensures
