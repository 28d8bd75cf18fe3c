-- `choice::highest` meets its contract.
-- Assumes nothing.
use Rattle.choice.proofs.Groups.{highest_top}
use Rattle.choice.proofs.highest.Goals as goal

pub returns : goal.returns
returns c = highest_top c.args.x c.args.n c.ilog2.result c.requires.1 c.ilog2.ensures.power_le c.ilog2.ensures.next_power_gt
