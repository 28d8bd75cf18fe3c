-- `writer::number_within` meets its contract.
-- Assumes nothing.
use Prim.Native.Nat.{◌≤◌, ◌<◌}
use mathlib.Core.Path.{◌≡◌, sym, ◌∙◌}
use native.Mathlib.Omega.{arith}
use mathlib.Core.Bool.{false}
use Rattle.std.proofs.lemmas.Int.{to_z-of_z}
use Rattle.signed.specs.Signed.{signed_of}
use Rattle.plain.specs.Taking.{between}
use Rattle.writer.proofs.Numbers.{number_in, number_out, between_low, between_high, between_minus}
use Rattle.writer.proofs.number_within.Goals as goal
use Rattle.writer.proofs.number_within.Goals.{After-from, in_default-via-in-Plus+then-from-n+else-n-from, in_default-via-in-Plus+else-from-n, in_default-via-in_default}

-- the sign of the number
sign : (c : After-from) → c.from.result ≡ signed_of c.args.x
sign c = let f = c.ranges.x in rw to_z-of_z at c.from.ensures

pub returns-in-Plus : goal.returns-in-Plus
returns-in-Plus c =
    let l : c.args.low ≤ c.in-Plus.n = omega arith in
    let h : c.in-Plus.n ≤ c.args.high = omega arith in
    number_in _ _ _ _ _ (sym (sign (goal.at.returns-in-Plus c).After-from) ∙ c.in-Plus.is) l h

pub returns-in_default : goal.returns-in_default
returns-in_default c =
    let s = sign (goal.at.returns-in_default c).After-from in
    let out : between c.args.low c.args.high c.args.x ≡ false = elim c.in_default.branch [
      | in_default-via-in-Plus+then-from-n+else-n-from w ↦
          let l : c.args.low ≤ w.in-Plus.n = omega arith in
          let h : c.args.high < w.in-Plus.n = omega arith in
          between_high _ _ _ _ (sym s ∙ w.in-Plus.is) l h
      | in_default-via-in-Plus+else-from-n w ↦
          let l : w.in-Plus.n < c.args.low = omega arith in
          between_low _ _ _ _ (sym s ∙ w.in-Plus.is) l
      | in_default-via-in_default w ↦ between_minus _ _ _ _ (sym s ∙ w.in_default.is)
    ] in
    simp (c.at.ensures.0, c.at.ensures.1) (number_out _ _ _ _ out)
