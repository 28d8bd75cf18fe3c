-- What `table::fill` leaves open, from the laws.
use Rattle.lists.proofs.Stores.{layout_room}
use Rattle.table.proofs.Stores.{fresh_next}
use Rattle.table.proofs.fill.Goals as goal

pub loop-i-preserved : goal.loop-i-preserved
loop-i-preserved c = fresh_next _ _ _ _ _ _ (layout_room c.args.layout _ c.requires) c.loop-i-test.true c.first_level.ensures c.loop-i.invariant
