-- `field::put_front` meets its contract: one store, and then a number.
-- Assumes nothing.
use mathlib.Core.Path.{◌∙◌}
use native.Mathlib.Omega.{arith}
use lib.ListN.{length-set}
use Rattle.answer.proofs.Spaces.{wrote_one, wrote_append}
use Rattle.field.proofs.put_front.Goals as goal

pub put_word-requires : goal.put_word-requires
put_word-requires c = simp length-set (omega arith)

pub shape_of-out : goal.shape_of-out
shape_of-out c = c.put_word.auto.out ∙ simp length-set

pub returns : goal.returns
returns c = wrote_append _ _ _ _ _ _ _ _ (wrote_one _ _ _) c.put_word.ensures
