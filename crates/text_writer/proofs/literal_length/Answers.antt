-- `text_writer::literal_length` meets its contract: two bytes hold no number of more than five digits.
-- Assumes nothing.
use native.Mathlib.Omega.{arith}
use Rattle.decimal.proofs.Digits.{number_length}
use Rattle.text_writer.proofs.literal_length.Goals as goal

pub overflow_add-result : goal.overflow_add-result
overflow_add-result c = omega (arith, c.number_length.ensures, number_length 4 c.args.variable (omega (arith, c.ranges.variable)))
