-- What `path::gather` leaves open, from the laws.
use Prim.Native.Nat.{ℕ, ◌-◌}
use mathlib.Core.Path.{sym, subst}
use native.Mathlib.Omega.{arith}
use lib.Bits.{bit_or}
use lib.ListN.{get_or}
use Rattle.rounds.proofs.Digits.{pow_le}
use Rattle.path.proofs.Pressing.{Gathering, gather_start, gather_step, gather_end}
use Rattle.path.proofs.gather.Goals as goal

pub loop-rest-init : goal.loop-rest-init
loop-rest-init c = (c.requires.2, gather_start _ _ _)

pub overflow_sub-rest : goal.overflow_sub-rest
overflow_sub-rest c = omega (arith, c.bit-rest.ensures, pow_le c.loop-rest.rest c.highest-g.result c.highest-g.ensures.1.in_it)

pub loop-rest-preserved : goal.loop-rest-preserved
loop-rest-preserved c = (
  omega (arith, c.loop-rest.invariant.0),
  subst (λ (b : ℕ). Gathering c.args.why.now c.args.set c.args.groups (c.loop-rest.rest - b) (bit_or c.loop-rest.all (get_or c.args.why.now c.highest-g.result 0))) (sym c.bit-rest.ensures)
      (gather_step _ _ _ _ _ _ c.highest-g.ensures.0 c.highest-g.ensures.1.in_it c.loop-rest.invariant.1),
)

pub returns : goal.returns
returns c = gather_end _ _ _ _ (subst (λ (x : ℕ). Gathering c.args.why.now c.args.set c.args.groups x c.loop-rest.all) c.loop-rest-test.false c.loop-rest.invariant.1)
