-- What `text_writer::put_body` leaves open, from the laws.
use mathlib.Core.Path.{ap}
use mathlib.Core.List.{◌∷◌}
use native.Mathlib.Omega.{arith}
use lib.ListN.{length, length-append}
use Rattle.answer.proofs.Spaces.{writing_room, writing_next, writing_end}
use Rattle.decimal.specs.Digits.{number}
use Rattle.field.specs.Left.{words_left}
use Rattle.text.specs.Writing.{body_text}
use Rattle.text_writer.proofs.put_body.Goals as goal

pub put_literal-i-requires : goal.put_literal-i-requires
unfolding body_text
put_literal-i-requires c =
    omega (
      arith,
      writing_room _ _ _ _ _ _ c.loop-variable.invariant c.requires,
      ap length (ap body_text c.in-Some.ensures.steps),
      length-append (32 ∷ (45 ∷ number c.in-Some.variable)) (body_text (words_left c.next.new.self)),
    )

pub loop-variable-preserved : goal.loop-variable-preserved
unfolding body_text
loop-variable-preserved c = writing_next _ _ _ _ _ _ c.loop-variable.invariant _ _ _ _ (ap body_text c.in-Some.ensures.steps) c.put_literal-i.ensures

pub returns : goal.returns
unfolding body_text
returns c = writing_end _ _ _ _ _ _ c.loop-variable.invariant (ap body_text c.in-None.ensures.steps.0)
