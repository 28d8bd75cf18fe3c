-- `field::is_rising_to` meets its contract. The loop's invariant: the numbers that are left decide, from above the last one.
-- Assumes nothing.
use mathlib.Core.Path.{◌≡◌}
use mathlib.Core.Bool.{◌&&◌}
use Rattle.field.specs.Words.{words, within, rising}
use Rattle.field.specs.Left.{words_left}
use Rattle.field.proofs.is_rising_to.Given as goal

abbrev pub invariant-loop-w : goal.invariant-loop-w
invariant-loop-w l = (within 1 l.high (words l.part) && rising 0 (words l.part)) ≡ (within 1 l.high (words_left l.w-iterator) && rising l.last (words_left l.w-iterator))
