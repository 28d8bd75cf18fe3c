-- `levels::Arrivals::choice_below` meets its contract.
-- Assumes nothing.
use Prim.Native.Nat.{ℕ, ◌-◌, ◌%◌, ◌^◌, ◌<◌}
use mathlib.Core.Path.{◌≡◌, sym, ap, ◌∙◌}
use native.Mathlib.Omega.{arith}
use native.Mathlib.Nat.{mod-eq_of_lt}
use Rattle.std.proofs.Common.{rules}
use Rattle.levels.proofs.Thresholds.{or_up_to}
use Rattle.levels.proofs.arrivals.Arrivals.choice_below.Goals as goal

pub returns-then-bound-ge-NEVER : goal.returns-then-bound-ge-NEVER
returns-then-bound-ge-NEVER c = let e : c.args.bound - 1 ≡ 32 = omega (arith, c.if-bound-ge-NEVER.true, c.requires.bound.1) in
    let l : c.args.self.pool < 2 ^ 32 = search rules in
    or_up_to _ _ c.requires.apart _ (omega (arith, c.requires.bound.1)) _ (sym (mod-eq_of_lt l) ∙ ap (λ (n : ℕ). c.args.self.pool % 2 ^ n) (sym e))

pub returns : goal.returns
returns c = or_up_to _ _ c.requires.apart _ (omega (arith, c.requires.bound.1)) _ (ap (λ (n : ℕ). c.args.self.pool % n) c.bit.ensures)
