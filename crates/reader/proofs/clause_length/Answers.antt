-- `reader::clause_length` meets its contract.
-- Assumes nothing.
use native.Mathlib.Omega.{arith}
use mathlib.Core.Path.{ap}
use lib.ListN.{length}
use Rattle.reader.proofs.Putting.{head_none, head_some}
use Rattle.reader.proofs.Walks.{part_numbers}
use Rattle.reader.proofs.clause_length.Goals as goal

pub returns-then-clause-eq0 : goal.returns-then-clause-eq0
returns-then-clause-eq0 c = omega (arith, part_numbers c.args.clause.now, ap length (head_none _ c.if-clause-eq0.true))

pub returns : goal.returns
returns c = omega (arith, part_numbers c.args.clause.now, ap length (head_some _ c.if-clause-eq0.false))
