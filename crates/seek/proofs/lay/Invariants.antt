-- `seek::lay` meets its contract. The reasons of the groups before g are laid.
-- Assumes nothing.
use Prim.Native.Nat.{ℕ, ◌<◌}
use mathlib.Core.Path.{◌≡◌}
use lib.ListN.{length, get_or}
use Rattle.seek.specs.Paths.{reason_of}
use Rattle.seek.proofs.lay.Given as goal

abbrev pub invariant-loop-g : goal.invariant-loop-g
invariant-loop-g l = record {
  laid : (j : ℕ) → j < l.g → get_or l.why j 0 ≡ reason_of l.last j;
  long : length l.why ≡ length l.initial.why;
}
