-- `records::is_allowed` meets its contract. The records before i leave the choice.
-- Assumes nothing.
use Prim.Native.Nat.{ℕ, ◌<◌}
use mathlib.Core.Path.{◌≡◌}
use mathlib.Core.Bool.{true}
use Rattle.records.specs.Words.{kind_at, set_at, record_from}
use Rattle.rounds.specs.Records.{allows}
use Rattle.records.proofs.is_allowed.Given as goal

abbrev pub invariant-loop-i : goal.invariant-loop-i
invariant-loop-i l = (j : ℕ) → j < l.i → allows (record_from (kind_at l.records j) (set_at l.records j)) l.choice ≡ true
