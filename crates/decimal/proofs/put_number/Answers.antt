-- `decimal::put_number` meets its contract: a number below 10 is one digit, and std's digits of a number are its digits.
-- Assumes nothing.
use mathlib.Core.Path.{ap, sym, subst}
use mathlib.Core.List.{List}
use Prim.Native.Nat.{ℕ}
use native.Mathlib.Omega.{arith}
use lib.ListN.{length}
use Rattle.answer.specs.Space.{Wrote}
use Rattle.decimal.proofs.Digits.{number_low, decimal_number}
use Rattle.decimal.proofs.Putting.{put_digits}
use Rattle.decimal.proofs.put_number.Goals as goal

pub write_digits-requires : goal.write_digits-requires
write_digits-requires c =
    (omega (arith, c.number_length.ensures, ap length (decimal_number c.args.n c.ranges.n.fits)), omega (arith, c.requires, c.number_length.ensures))

pub returns : goal.returns
returns c =
    let d = c.write_digits.ensures in
    put_digits _ _ c.args.n _ _ _ c.ranges.n.fits c.number_length.ensures c.requires d.start d.written d.before

pub put_byte-requires : goal.put_byte-requires
put_byte-requires c = omega (arith, c.requires, ap length (number_low c.args.n c.if-n-lt10.true))

pub returns-then-n-lt10 : goal.returns-then-n-lt10
returns-then-n-lt10 c =
    subst (λ (ds : List ℕ). Wrote c.args.out.now c.args.at ds c.put_byte.new.out c.put_byte.result) (sym (number_low c.args.n c.if-n-lt10.true)) c.put_byte.ensures
