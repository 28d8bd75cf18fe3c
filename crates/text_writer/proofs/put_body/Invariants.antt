-- `text_writer::put_body` meets its contract. The loop's invariant is `Writing`: the variables that are left are what is left to be written.
-- Assumes nothing.
use Rattle.answer.proofs.Spaces.{Writing}
use Rattle.field.specs.Left.{words_left}
use Rattle.field.specs.Words.{words}
use Rattle.text.specs.Writing.{body_text}
use Rattle.text_writer.proofs.put_body.Given as goal

abbrev pub invariant-loop-variable : goal.invariant-loop-variable
invariant-loop-variable l = Writing (body_text (words l.body)) l.initial.out l.at l.out l.i (body_text (words_left l.variable-iterator))
