-- What `writer::put_words` leaves open, from the laws.
use native.Mathlib.Omega.{arith}
use lib.ListN.{drop, length-drop}
use Rattle.std.specs.Prelude.{map}
use Rattle.std.proofs.lemmas.List.{drop_all, length-map}
use Rattle.field.specs.Words.{word_bytes}
use Rattle.field.proofs.Words.{length_word_bytes}
use Rattle.answer.proofs.Spaces.{writing_start, writing_room, writing_next, writing_end}
use Rattle.writer.proofs.Copying.{words_more}
use Rattle.writer.proofs.put_words.Goals as goal

pub loop-w-init : goal.loop-w-init
loop-w-init g c = writing_start _ _ _

pub put_word-i-requires : goal.put_word-i-requires
put_word-i-requires g c =
    let l = c.loop-w in
    let p = c.args.words.now in
    let f = g.W.Word.word_of in
    omega (
      arith,
      writing_room _ _ _ _ _ _ l.invariant (omega (arith, c.requires, length_word_bytes (map f p), length-map p f)),
      length_word_bytes (map f (drop l.w-index p)),
      length-map (drop l.w-index p) f,
      length-drop l.w-index p,
    )

pub loop-w-preserved : goal.loop-w-preserved
loop-w-preserved g c = writing_next _ _ _ _ _ _ c.loop-w.invariant _ _ _ _ (words_more g.W.Word.word_of _ _ _ _ c.loop-w-test.true c.w-item.is c.word.ensures) c.put_word-i.ensures

pub returns : goal.returns
unfolding word_bytes
returns g c = writing_end _ _ _ _ _ _ c.loop-w.invariant (simp (drop_all c.loop-w.w-index c.args.words.now c.loop-w-test.false))
