-- Laws of passes over the records.
--   passing_then             one pass after the other
-- Assumes nothing.
use Prim.Native.Nat.{ℕ, ◌≤◌}
use mathlib.Core.List.{List}
use native.Mathlib.Omega.{arith}
use Rattle.std.proofs.Common.{Result, Ok, Err}
use Rattle.path.specs.Paths.{Same, Narrows}
use Rattle.path.proofs.Pressing.{closing_then}
use Rattle.closing.specs.Passes.{Passing}
use Rattle.closing.specs.declared.Open.{Open}

pub passing_then : {n : ℕ} {Fit : ℕ → Type 0} {taken left free : ℕ} {why : List ℕ} {f t l : ℕ} {mid : List ℕ} → Narrows n Fit taken left free why f t l mid → Same free why mid
    → (low most most' : ℕ) → most' ≤ most → (r : Result Open ℕ) (after : List ℕ) → Passing n Fit t l f mid low most' r after → Passing n Fit taken left free why low most r after
passing_then N S low most most' h (Err c) after p = closing_then _ _ _ _ _ _ _ _ _ _ N S (Err c) after p
passing_then N S low most most' h (Ok o) after p = (closing_then _ _ _ _ _ _ _ _ _ _ N S (Ok o.sides) after p.0, p.1, omega (arith, p.2))
