-- `writer::put_header` meets its contract: three runs of stores, one after the other.
-- Assumes nothing.
use mathlib.Core.List.{[], ◌∷◌}
use native.Mathlib.Omega.{arith}
use Rattle.field.proofs.Words.{length_word_bytes}
use Rattle.writer.proofs.Copying.{header_wrote}
use Rattle.writer.proofs.put_header.Goals as goal

pub put_word-b-requires : goal.put_word-b-requires
put_word-b-requires c = omega (arith, length_word_bytes (4 ∷ []))

pub put_word-requires : goal.put_word-requires
put_word-requires c = omega (arith, length_word_bytes (4 ∷ []), length_word_bytes (c.args.variables ∷ []))

pub returns : goal.returns
returns c = header_wrote _ _ _ _ _ _ _ _ _ c.put_front-a.ensures c.put_word-b.ensures c.put_word.ensures
