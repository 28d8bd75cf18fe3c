-- `text_writer::put_heading` meets its contract.
-- Assumes nothing.
use native.Mathlib.Omega.{arith}
use Prim.Native.Nat.{◌+◌, ◌≤◌}
use lib.ListN.{length}
use Rattle.answer.proofs.Spaces.{wrote_length}
use Rattle.book.specs.Clauses.{meant}
use Rattle.decimal.specs.Digits.{number}
use Rattle.text_writer.proofs.Putting.{heading_numbers, heading_wrote}
use Rattle.text_writer.proofs.put_heading.Goals as goal
use Rattle.text_writer.proofs.put_heading.Goals.{Start}

-- there is room for each part
fits : (c : Start) → let b = c.args.book.now in length (number b.variables) + length (number b.clauses) + length (number b.groups) + 10 ≤ length c.args.out.now
fits c = let b = c.args.book.now in omega (arith, c.requires, heading_numbers (meant b) _ _ _ b.variables_are b.clauses_are b.groups_are)

pub put_text-word-requires : goal.put_text-word-requires
put_text-word-requires c = omega (arith, fits (goal.at.put_text-word-requires c).Start)

pub put_after-a-requires : goal.put_after-a-requires
put_after-a-requires c =
    let p = c.put_text-word.ensures in
    omega (arith, fits (goal.at.put_after-a-requires c).Start, p.place, wrote_length _ _ _ _ _ p)

pub put_after-b-requires : goal.put_after-b-requires
put_after-b-requires c =
    let p = c.put_text-word.ensures in
    let q = c.put_after-a.ensures in
    omega (arith, fits (goal.at.put_after-b-requires c).Start, p.place, wrote_length _ _ _ _ _ p, q.place, wrote_length _ _ _ _ _ q)

pub put_after-c-requires : goal.put_after-c-requires
put_after-c-requires c =
    let p = c.put_text-word.ensures in
    let q = c.put_after-a.ensures in
    let r = c.put_after-b.ensures in
    omega (arith, fits (goal.at.put_after-c-requires c).Start, p.place, wrote_length _ _ _ _ _ p, q.place, wrote_length _ _ _ _ _ q, r.place, wrote_length _ _ _ _ _ r)

pub put_byte-requires : goal.put_byte-requires
put_byte-requires c =
    let p = c.put_text-word.ensures in
    let q = c.put_after-a.ensures in
    let r = c.put_after-b.ensures in
    let t = c.put_after-c.ensures in
    omega (arith, fits (goal.at.put_byte-requires c).Start, p.place, wrote_length _ _ _ _ _ p, q.place, wrote_length _ _ _ _ _ q, r.place, wrote_length _ _ _ _ _ r, t.place, wrote_length _ _ _ _ _ t)

pub returns : goal.returns
returns c = let b = c.args.book.now in
    heading_wrote (meant b) _ _ _ b.variables_are b.clauses_are b.groups_are _ _ _ _ _ _ _ _ _ _ _ _
    c.put_text-word.ensures c.put_after-a.ensures c.put_after-b.ensures c.put_after-c.ensures c.put_byte.ensures
