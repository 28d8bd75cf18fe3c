-- `text_writer::clause_length` meets its contract.
-- Assumes nothing.
use Prim.Native.Nat.{◌+◌}
use mathlib.Core.Path.{◌≡◌, sym, ap}
use native.Mathlib.Omega.{arith}
use lib.ListN.{length}
use Rattle.field.specs.Words.{words}
use Rattle.decimal.specs.Digits.{number}
use Rattle.book.specs.Clauses.{clause_is}
use Rattle.text.specs.Writing.{body_text, head_text, clause_text}
use Rattle.text.proofs.Written.{head_none, head_some}
use Rattle.text_writer.proofs.Putting.{clause_size}
use Rattle.text_writer.proofs.clause_length.Goals as goal
use Rattle.text_writer.proofs.clause_length.Goals.{After-body_length, After-group_of}

size : (c : After-group_of)
    → let k = c.args.clause.now in
    length (clause_text (clause_is k)) ≡ length (number c.group_of.result) + length (body_text (words k.body.now)) + length (head_text k.head) + 5
size c = clause_size _ _ _ _ (sym c.group_of.ensures)

pub body_length-requires : goal.body_length-requires
body_length-requires c = omega (arith, size (goal.at.body_length-requires c).After-group_of, c.requires)

-- the sum so far
sum : (c : After-body_length)
    → let k = c.args.clause.now in
    length (clause_text (clause_is k)) ≡ c.number_length.result + c.body_length.result + length (head_text k.head) + 5
sum c = let k = c.args.clause.now in
    omega (arith, clause_size (words k.groups.now) k.head (words k.body.now) _ (sym c.group_of.ensures), c.number_length.ensures, c.body_length.ensures)

pub overflow_add-n : goal.overflow_add-n
overflow_add-n c = omega (arith, sum c, c.requires)

pub overflow_add-n-2 : goal.overflow_add-n-2
overflow_add-n-2 c = omega (arith, sum c, c.requires)

pub returns-then-clause-eq0 : goal.returns-then-clause-eq0
returns-then-clause-eq0 c = omega (arith, sum (goal.at.returns-then-clause-eq0 c).After-body_length, ap length (head_none _ c.if-clause-eq0.true))

pub overflow_add-result : goal.overflow_add-result
overflow_add-result c = omega (arith, sum (goal.at.overflow_add-result c).After-body_length, ap length (head_some _ c.if-clause-eq0.false), c.number_length-2.ensures, c.requires)

pub overflow_add-result-2 : goal.overflow_add-result-2
overflow_add-result-2 c = omega (arith, sum (goal.at.overflow_add-result-2 c).After-body_length, ap length (head_some _ c.if-clause-eq0.false), c.number_length-2.ensures, c.requires)

pub returns : goal.returns
returns c = omega (arith, sum (goal.at.returns c).After-body_length, ap length (head_some _ c.if-clause-eq0.false), c.number_length-2.ensures)
