-- `reader::put_numbers` meets its contract. The loop's invariant: the space is as long as it was, there is a place for each number that is left,
-- and for whatever the signs are `Writing`: the numbers that are left are what is left to be written.
-- Assumes nothing.
use Prim.Native.Nat.{ℕ, ◌+◌}
use mathlib.Core.Path.{◌≡◌}
use lib.IntN.{ℤ}
use lib.ListN.{length}
use Rattle.answer.proofs.Spaces.{Writing}
use Rattle.field.specs.Left.{words_left}
use Rattle.field.specs.Words.{words}
use Rattle.plain.specs.Plain.{each}
use Rattle.reader.proofs.put_numbers.Given as goal

abbrev pub invariant-loop-n : goal.invariant-loop-n
invariant-loop-n g l =
    (length l.out ≡ length l.initial.out)
    × (l.i + length (words_left l.n-iterator) ≡ l.at + length (words l.part))
    × ((h : ℕ → ℤ) → ((n : ℕ) (z : ℤ) → goal.F-post g l.sign n z → z ≡ h n)
    → Writing (each h (words l.part)) l.initial.out l.at l.out l.i (each h (words_left l.n-iterator)))
