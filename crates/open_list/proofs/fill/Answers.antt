-- `open_list::fill` meets its contract.
-- Assumes nothing.
use Prim.Native.Nat.{◌+◌}
use mathlib.Core.Path.{◌∙◌}
use native.Mathlib.Omega.{arith}
use Rattle.open_list.proofs.fill.Goals as goal

pub returns : goal.returns
returns c = (
  c.widen.ensures.0 ∙ c.number.ensures.0,
  omega (arith, c.widen.ensures.0, c.widen.ensures.1 32 (omega arith), c.number.ensures.1, c.capped-n.ensures),
  λ i h. (i, h, c.widen.ensures.1 (33 + i) (omega arith) ∙ c.number.ensures.2 i (omega arith)),
)
