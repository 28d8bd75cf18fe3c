-- `report::put_line` meets its contract. The word and the numbers so far are written, with at most 21 bytes for each number.
-- Assumes nothing.
use Prim.Native.Nat.{◌+◌, ◌*◌, ◌≤◌}
use mathlib.Core.List.{◌++◌}
use lib.ListN.{length, take}
use Rattle.answer.specs.Space.{Wrote}
use Rattle.report.specs.Text.{numbers}
use Rattle.report.proofs.put_line.Given as goal

abbrev pub invariant-loop-value : goal.invariant-loop-value
invariant-loop-value l = Wrote l.fn.out l.at (l.word ++ numbers (take l.value-index l.values)) l.out l.i × (l.i ≤ l.at + length l.word + 21 * l.value-index)
