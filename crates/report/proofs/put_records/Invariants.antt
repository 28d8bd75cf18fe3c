-- `report::put_records` meets its contract. The lines of the records before k are written.
-- Assumes nothing.
use Prim.Native.Nat.{◌+◌, ◌*◌, ◌≤◌}
use Rattle.answer.specs.Space.{Wrote}
use Rattle.records.specs.Words.{records_of}
use Rattle.report.specs.Text.{record_lines}
use Rattle.report.proofs.put_records.Given as goal

abbrev pub invariant-loop-k : goal.invariant-loop-k
invariant-loop-k l = Wrote l.initial.out l.at (record_lines (records_of l.records l.k)) l.out l.i × (l.i ≤ l.at + 104 * l.k)
