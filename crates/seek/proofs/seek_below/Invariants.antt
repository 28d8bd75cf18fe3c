-- `seek::seek_below` meets its contract. No choice that fits agrees with the last seed from g on.
-- Assumes nothing.
use Prim.Native.Nat.{ℕ}
use mathlib.Core.Path.{◌≡◌}
use lib.ListN.{length}
use Rattle.meaning.specs.Choice.{Inside}
use Rattle.records.specs.Words.{records_of}
use Rattle.path.specs.Paths.{Fits}
use Rattle.seek.specs.Paths.{Along, Clear}
use Rattle.seek.proofs.seek_below.Given as goal

abbrev pub invariant-loop-g : goal.invariant-loop-g
invariant-loop-g l = record {
  wide : length l.why ≡ 32;
  along : Along l.last l.groups l.g l.why;
  none : (z : ℕ) → Fits l.groups (records_of l.records l.count) z → Inside l.ruled z → ⊥;
  clear : Clear (Fits l.groups (records_of l.records l.count)) l.last l.g;
  long : length l.list ≡ length l.initial.list;
}
