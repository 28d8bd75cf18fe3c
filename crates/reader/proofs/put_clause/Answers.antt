-- `reader::put_clause` meets its contract: four runs of stores, one after the other.
-- Assumes nothing.
use Prim.Native.Nat.{◌+◌, ◌≤◌}
use mathlib.Core.Path.{◌≡◌}
use native.Mathlib.Omega.{arith}
use lib.IntN.{pos}
use lib.ListN.{length}
use Rattle.answer.proofs.Spaces.{wrote_length}
use Rattle.field.specs.Words.{words}
use Rattle.book.specs.Clauses.{clause_is}
use Rattle.plain.specs.Plain.{minus, head_literal}
use Rattle.plain.proofs.Given.{length_each, clause_numbers}
use Rattle.reader.proofs.Putting.{clause_wrote}
use Rattle.reader.proofs.put_clause.Goals as goal
use Rattle.reader.proofs.put_clause.Goals.{After-put_numbers-b, Start}

-- there is room for each part, and each call leaves the space as long as it was
fits : (c : Start) → let k = c.args.clause.now in c.args.at + (length (words k.groups.now) + length (words k.body.now) + length (head_literal k.head) + 1) ≤ length c.args.out.now
fits c = omega (arith, c.requires, clause_numbers (clause_is c.args.clause.now))

pub put_numbers-a-requires-clause-in_bounds : goal.put_numbers-a-requires-clause-in_bounds
put_numbers-a-requires-clause-in_bounds c = omega (arith, fits (goal.at.put_numbers-a-requires-clause-in_bounds c).Start)

pub put_numbers-b-requires-clause-in_bounds : goal.put_numbers-b-requires-clause-in_bounds
put_numbers-b-requires-clause-in_bounds c =
    let p = c.put_numbers-a.ensures pos (λ n z e. e) in
    omega (arith, fits (goal.at.put_numbers-b-requires-clause-in_bounds c).Start, p.place, wrote_length _ _ _ _ _ p, length_each pos (words c.args.clause.now.groups.now))

-- the place and the space after the body
long : (c : After-put_numbers-b)
    → let k = c.args.clause.now in
    (c.put_numbers-b.result ≡ c.args.at + length (words k.groups.now) + length (words k.body.now)) × (length c.put_numbers-b.new.out ≡ length c.args.out.now)
long c =
    let k = c.args.clause.now in
    let p = c.put_numbers-a.ensures pos (λ n z e. e) in
    let q = c.put_numbers-b.ensures minus (λ n z e. e) in (
      omega (arith, p.place, q.place, length_each pos (words k.groups.now), length_each minus (words k.body.now)),
      omega (arith, wrote_length _ _ _ _ _ p, wrote_length _ _ _ _ _ q),
    )

pub put_head-c-requires : goal.put_head-c-requires
put_head-c-requires c = omega (arith, fits (goal.at.put_head-c-requires c).Start, long (goal.at.put_head-c-requires c).After-put_numbers-b)

pub put_plus-requires : goal.put_plus-requires
put_plus-requires c =
    let w = c.put_head-c.ensures in
    omega (arith, fits (goal.at.put_plus-requires c).Start, long (goal.at.put_plus-requires c).After-put_numbers-b, w.place, wrote_length _ _ _ _ _ w)

pub overflow_add-result : goal.overflow_add-result
overflow_add-result c =
    let w = c.put_head-c.ensures in
    omega (arith, fits (goal.at.overflow_add-result c).Start, long (goal.at.overflow_add-result c).After-put_numbers-b, w.place, c.well_formed)

pub returns : goal.returns
returns c =
    clause_wrote (clause_is c.args.clause.now) _ _ _ _ _ _ _ _ _ (c.put_numbers-a.ensures pos (λ n z e. e)) (c.put_numbers-b.ensures minus (λ n z e. e))
    c.put_head-c.ensures c.put_plus.ensures
