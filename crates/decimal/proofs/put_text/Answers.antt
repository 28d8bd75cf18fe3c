-- `decimal::put_text` meets its contract.
-- Assumes nothing.
use Rattle.decimal.proofs.Putting.{put_copied}
use Rattle.decimal.proofs.put_text.Goals as goal

pub returns : goal.returns
returns c = put_copied _ _ _ _ c.copy_from_slice.ensures.after c.requires
