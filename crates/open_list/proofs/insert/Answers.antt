-- What `open_list::insert` leaves open, from the laws.
use Prim.Native.Nat.{◌+◌}
use native.Mathlib.Omega.{arith}
use lib.ListN.{length-set}
use Rattle.std.proofs.lemmas.Grind.{common_steps}
use Rattle.open_list.specs.Entries.{Beside}
use Rattle.open_list.proofs.insert.Goals as goal

pub returns : goal.returns
returns c = (
  simp length-set c.loop-g.auto.list,
  λ e h. (
    grind (arith, common_steps),
    (c.loop-g.p, omega arith, grind (arith, common_steps)),
    λ j a.
        let b : Beside (c.listed-n.result + 1) c.loop-g.p c.loop-g.list j = c.loop-g.invariant.1 j (a.0, omega arith, a.2) in
        (b.0, omega arith, grind (arith, common_steps)),
  ),
)
