-- `choice::has` meets its contract.
-- Assumes nothing.
use Rattle.choice.proofs.Groups.{has_is}
use Rattle.choice.proofs.has.Goals as goal

pub returns : goal.returns
returns c = has_is _ _
