-- The line of a refusal fits its space, and it is what is printed.
use Rattle.std.proofs.Common.{ℕ, ◌^◌, ◌≤◌, ◌<◌, ◌++◌, length, arith, subst, length-append}
use Rattle.decimal.specs.Digits.{after}
use Rattle.decimal.proofs.Digits.{number_length}
use Rattle.decimal.proofs.Putting.{line_length}
use Rattle.report.specs.Text.{refusal_text, refused_word}
use Rattle.streams.specs.Streams.{Prints}
use Rattle.tell.proofs.Fronts.{front_wrote}
use Rattle.tell.proofs.refused.Goals as goal

-- a number of one byte has at most three digits, one of eight bytes at most twenty
short : (number place : ℕ) → number < 2 ^ 8 → place < 2 ^ 64 → length (refusal_text number place) ≤ 64
unfolding refusal_text
short number place h k =
    omega
    (arith, line_length refused_word (after number ++ after place), length-append (after number) (after place), number_length 2 number (omega (arith, h)), number_length 19 place (omega (arith, k)))

pub returns : goal.returns
returns g c =
    subst
    (Prints c.front.result (g.W.Write.contents c.args.out.now) (g.W.Write.contents c.front.new.out))
    (front_wrote _ _ _ _ c.put_refusal-end.ensures (short c.args.number c.args.place c.ranges.number.fits c.ranges.place.fits))
    c.front.ensures
