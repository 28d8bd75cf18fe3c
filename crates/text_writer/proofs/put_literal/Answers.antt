-- `text_writer::put_literal` meets its contract.
-- Assumes nothing.
use Rattle.answer.proofs.Spaces.{wrote_append}
use Rattle.text_writer.proofs.put_literal.Goals as goal

pub returns : goal.returns
returns c = wrote_append _ _ _ _ _ _ _ _ c.put_text-next.ensures c.put_number.ensures
