-- `choice::above` meets its contract.
-- Assumes nothing.
use Rattle.choice.proofs.Groups.{above_is}
use Rattle.choice.proofs.above.Goals as goal

pub returns : goal.returns
returns c = above_is _ _ _ c.bit-b.ensures
