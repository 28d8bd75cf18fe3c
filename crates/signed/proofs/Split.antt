-- What the sign that was found says of the number.
--   is_plus, is_minus_lem      the number itself
-- Assumes nothing.
use Prim.Native.Nat.{ℕ, suc}
use mathlib.Core.Path.{◌≡◌, refl}
use lib.IntN.{ℤ, pos, negsuc}
use Rattle.signed.specs.Signed.{signed_of}
use Rattle.signed.specs.declared.Signed.TheVariants.{Plus, Minus}

pub is_plus : (z : ℤ) (n : ℕ) → signed_of z ≡ Plus n → z ≡ pos n
is_plus (pos m) n e = cc
is_plus (negsuc m) n e = cc

pub is_minus_lem : (z : ℤ) (n : ℕ) → signed_of z ≡ Minus n → (k : ℕ) × (z ≡ negsuc k) × (n ≡ suc k)
is_minus_lem (pos m) n e = cc
is_minus_lem (negsuc m) n e = (m, refl, cc)
