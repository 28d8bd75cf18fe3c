-- `clause_line::scan_literals` meets its contract.
-- Assumes nothing.
use mathlib.Core.Path.{◌≡◌}
use lib.ListN.{length}
use Rattle.clause_line.proofs.Scans.{Scanning}
use Rattle.clause_line.proofs.scan_literals.Given as goal

abbrev pub invariant-loop-literal : goal.invariant-loop-literal
invariant-loop-literal l = Scanning l.variables l.rest l.t l.initial.body l.body l.scan × (length l.body ≡ length l.initial.body)

abbrev pub decreases-loop-literal : goal.decreases-loop-literal
decreases-loop-literal l = length l.t
