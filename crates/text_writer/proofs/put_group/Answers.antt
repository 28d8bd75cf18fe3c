-- `text_writer::put_group` meets its contract.
-- Assumes nothing.
use Rattle.text_writer.proofs.Putting.{group_wrote}
use Rattle.text_writer.proofs.put_group.Goals as goal

pub returns : goal.returns
returns c = group_wrote _ _ _ _ _ _ _ _ _ c.put_byte-first.ensures c.put_number-last.ensures c.put_byte.ensures
