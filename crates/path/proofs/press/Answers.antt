-- What `path::press` leaves open, from the laws.
use Prim.Native.Nat.{ℕ}
use mathlib.Core.Path.{refl, sym, ap, ◌∙◌}
use borrow.Author.Tests.{eqb-true, not-false, ltb-true}
use lib.ListN.{set}
use Rattle.path.proofs.Pressing.{press_shut, press_last}
use Rattle.path.specs.Paths.{gathered}
use Rattle.path.proofs.press.Goals as goal

pub returns-then-rest-eq0 : goal.returns-then-rest-eq0
returns-then-rest-eq0 c = let e = press_shut c.args.groups c.args.set c.args.side c.args.free c.if-rest-eq0.true in
    (ltb-true _ _ (not-false _ (sym c.exceeds.ensures ∙ c.if-exceeds.false)), e.1, c.gather-reason.ensures ∙ ap (λ (x : ℕ). gathered c.args.why.now x c.args.groups) e.0, refl)

pub returns : goal.returns
returns c = (
  press_last c.args.groups c.args.set c.args.side c.args.free c.highest-group.result (ltb-true _ _ (not-false _ (sym c.exceeds.ensures ∙ c.if-exceeds.false))) (sym c.bit.ensures ∙ c.if-bit-rest.false)
      (eqb-true _ _ (sym c.has.ensures ∙ c.if-not-has.false)),
  ap (λ (x : ℕ). set c.args.why.now c.highest-group.result x) c.gather-reason.ensures,
)
