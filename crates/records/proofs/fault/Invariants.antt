-- `records::fault` meets its contract. No word before i is faulty.
-- Assumes nothing.
use Prim.Native.Nat.{◌-◌}
use mathlib.Core.Path.{◌≡◌}
use lib.ListN.{get_or}
use Rattle.records.specs.Words.{faulty, fault}
use Rattle.rounds.specs.Rounds.{first_from}
use Rattle.records.proofs.fault.Given as goal

abbrev pub invariant-loop-i : goal.invariant-loop-i
invariant-loop-i l = fault l.groups l.records l.count ≡ first_from (λ j. faulty l.groups j (get_or l.records j 0)) (l.words - l.i) l.i
