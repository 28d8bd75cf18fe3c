-- `writer::put_clause` meets its contract: four runs of stores, one after the other.
-- Assumes nothing.
use Prim.Native.Nat.{◌+◌, ◌*◌}
use mathlib.Core.List.{[], ◌∷◌}
use native.Mathlib.Omega.{arith}
use lib.ListN.{length}
use Rattle.std.proofs.lemmas.List.{length-map}
use Rattle.field.proofs.Words.{length_word_bytes}
use Rattle.writer.proofs.Copying.{clause_wrote}
use Rattle.writer.proofs.put_clause.Goals as goal

pub put_word-b-requires : goal.put_word-b-requires
put_word-b-requires g c = omega (arith, length_word_bytes ((4 + 2 * length c.args.body.now) ∷ []))

pub put_word-c-requires : goal.put_word-c-requires
put_word-c-requires g c = omega (arith, length_word_bytes ((4 + 2 * length c.args.body.now) ∷ []), length_word_bytes (c.args.group ∷ []))

pub put_words-requires : goal.put_words-requires
put_words-requires g c = omega (
  arith,
  length_word_bytes ((4 + 2 * length c.args.body.now) ∷ []),
  length_word_bytes (c.args.group ∷ []),
  length_word_bytes (c.args.head ∷ []),
)

pub returns : goal.returns
returns g c =
    clause_wrote _ _ _ _ _ _ _ _ _ _ _ _ _ _ (omega (arith, length-map c.args.body.now g.W.Word.word_of)) c.put_front-a.ensures c.put_word-b.ensures c.put_word-c.ensures c.put_words.ensures
