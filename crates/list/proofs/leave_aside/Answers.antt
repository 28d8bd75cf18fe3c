-- `list::leave_aside` meets its contract: the table is laid, so the variables can be found by it.
-- Assumes nothing.
use Rattle.table.proofs.Stores.{sized, laid}
use Rattle.list.proofs.leave_aside.Goals as goal

pub set_aside-requires : goal.set_aside-requires
set_aside-requires c = laid _ _ _ (sized c.args.book.now) _ _ _ c.lay.ensures.ready
