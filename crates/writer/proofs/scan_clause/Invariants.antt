-- `writer::scan_clause` meets its contract. The loop's invariant is `Scanning`, of `Scans.antt`, where each turn is proved.
-- Assumes nothing.
use Prim.Native.Nat.{◌+◌}
use lib.ListN.{drop}
use Rattle.writer.proofs.Scans.{Scanning}
use Rattle.writer.proofs.scan_clause.Given as goal

abbrev pub invariant-loop-i : goal.invariant-loop-i
invariant-loop-i l = Scanning l.variables l.at l.s (drop l.i l.s) l.head l.last l.count (l.at + l.i)
