-- `text_writer::heading_length` meets its contract.
-- Assumes nothing.
use native.Mathlib.Omega.{arith}
use Prim.Native.Nat.{◌+◌, ◌≤◌}
use mathlib.Core.Path.{◌≡◌}
use lib.ListN.{length}
use Rattle.book.specs.Clauses.{meant}
use Rattle.book.proofs.Walk.{found}
use Rattle.text.specs.Writing.{heading_text}
use Rattle.text.proofs.Written.{text_length, text_most}
use Rattle.text_writer.proofs.Putting.{heading_numbers}
use Rattle.text_writer.proofs.heading_length.Goals as goal
use Rattle.text_writer.proofs.heading_length.Goals.{After-number_length-c}

-- the sum, and its bound
sum : (c : After-number_length-c)
    → let b = meant c.args.book.now in
    (c.number_length-a.result + c.number_length-b.result + c.number_length-c.result + 10 ≡ length (heading_text b)) × (length (heading_text b) ≤ 420000)
sum c =
    let b = c.args.book.now in (
      omega (arith, heading_numbers (meant b) _ _ _ b.variables_are b.clauses_are b.groups_are, c.number_length-a.ensures, c.number_length-b.ensures, c.number_length-c.ensures),
      omega (arith, text_length (meant b), text_most (meant b) (found b)),
    )

pub overflow_add-result : goal.overflow_add-result
overflow_add-result c = omega (arith, sum c)

pub overflow_add-result-2 : goal.overflow_add-result-2
overflow_add-result-2 c = omega (arith, sum c)

pub overflow_add-result-3 : goal.overflow_add-result-3
overflow_add-result-3 c = omega (arith, sum c)

pub returns : goal.returns
returns c = (sum c).0
