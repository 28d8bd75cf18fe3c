-- `field::is_rising` meets its contract. The loop's invariant: the numbers that are left decide, from above the last one.
-- Assumes nothing.
use mathlib.Core.Path.{◌≡◌}
use Rattle.field.specs.Words.{words, rising}
use Rattle.field.specs.Left.{words_left}
use Rattle.field.proofs.is_rising.Given as goal

abbrev pub invariant-loop-w : goal.invariant-loop-w
invariant-loop-w l = rising 0 (words l.part) ≡ rising l.last (words_left l.w-iterator)
