-- `writer::put_words` meets its contract. The loop's invariant is `Writing`: what is left of the numbers is what is left to be written.
-- Assumes nothing.
use lib.ListN.{drop}
use Rattle.std.specs.Prelude.{map}
use Rattle.field.specs.Words.{word_bytes}
use Rattle.answer.proofs.Spaces.{Writing}
use Rattle.writer.proofs.put_words.Given as goal

abbrev pub invariant-loop-w : goal.invariant-loop-w
invariant-loop-w g l = Writing (word_bytes (map g.W.Word.word_of l.words)) l.initial.out l.at l.out l.i (word_bytes (map g.W.Word.word_of (drop l.w-index l.words)))
