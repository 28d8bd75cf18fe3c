-- What `line::number_in` leaves open, from the laws.
use mathlib.Core.Path.{sym, ◌∙◌}
use native.Mathlib.Omega.{arith}
use Rattle.line.proofs.Spelling.{reading_next}
use Rattle.line.proofs.number_in.Goals as goal

pub loop-byte-preserved : goal.loop-byte-preserved
loop-byte-preserved c = reading_next _ _ _ c.loop-byte.invariant c.loop-byte-test.true (sym c.is_ascii_digit.ensures.value ∙ c.if-not-is_ascii_digit.false) _ (omega arith)
