-- `list::list` meets its contract: as many rounds as records still fit.
-- Assumes nothing.
use Rattle.list.proofs.Lists.{whole_room}
use Rattle.list.proofs.list.Goals as goal

pub returns : goal.returns
returns c = whole_room _ _ _ _ _ _ _ _ _ c.room.ensures c.run.ensures
