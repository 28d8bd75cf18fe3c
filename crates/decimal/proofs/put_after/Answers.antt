-- `decimal::put_after` meets its contract.
-- Assumes nothing.
use Rattle.decimal.proofs.Putting.{put_blank}
use Rattle.decimal.proofs.put_after.Goals as goal

pub returns : goal.returns
returns c = put_blank _ _ _ _ _ _ _ c.put_byte-next.ensures c.put_number.ensures
