-- A signed number as a sign and a number without one.
--   signed_of z      `Plus n` where z is n, `Minus n` where z is -n
-- Assumes nothing: this is a definition.
use Rattle.std.specs.Prelude.{suc, ℤ, pos, negsuc}
use Rattle.signed.specs.declared.Signed.{Signed}
use Rattle.signed.specs.declared.Signed.TheVariants.{Plus, Minus}

abbrev pub signed_of : ℤ → Signed
signed_of (pos n) = Plus n
signed_of (negsuc n) = Minus (suc n)
