-- What `open_list::part` leaves open, from the laws.
use native.Mathlib.Omega.{arith}
use Rattle.open_list.proofs.Entries.{keeps_then, keeps_exchange}
use Rattle.open_list.proofs.part.Goals as goal

pub loop-k-preserved-then-is_settled : goal.loop-k-preserved-then-is_settled
loop-k-preserved-then-is_settled c = (
  omega arith,
  omega arith,
  keeps_then _ _ _ _ _ (omega arith) c.loop-k.invariant.2 (keeps_exchange c.args.n _ _ c.loop-k.list _ (omega arith) (omega arith) (omega arith) c.exchange.ensures),
)
