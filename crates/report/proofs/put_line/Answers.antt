-- What `report::put_line` leaves open, from the laws.
use mathlib.Core.Path.{sym, ap, ◌∙◌}
use mathlib.Core.List.{List, ◌++◌, append-nil, append_assoc}
use native.Mathlib.Omega.{arith}
use lib.ListN.{get_or}
use Rattle.answer.proofs.Spaces.{wrote_append}
use Rattle.decimal.proofs.Digits.{number_length}
use Rattle.decimal.proofs.Putting.{wrote_as}
use Rattle.report.specs.Text.{numbers}
use Rattle.report.proofs.Lines.{numbers_more, numbers_all}
use Rattle.report.proofs.put_line.Goals as goal

pub loop-value-init : goal.loop-value-init
unfolding numbers
loop-value-init c = (wrote_as _ _ _ _ _ _ (sym (append-nil c.args.word.now)) c.put_text-i.ensures, omega arith)

pub put_after-i-requires : goal.put_after-i-requires
put_after-i-requires c = let k = c.loop-value.value-index in
    omega (arith, number_length 19 (get_or c.args.values.now k 0) (omega (arith, (c.type_inv.values k).fits)))

pub put_byte-requires : goal.put_byte-requires
put_byte-requires c = omega arith

pub loop-value-preserved : goal.loop-value-preserved
loop-value-preserved c = let l = c.loop-value in
    let k = l.value-index in (
      wrote_as _ _ _ _ _ _ (append_assoc c.args.word.now _ _ ∙ ap (λ (t : List _). c.args.word.now ++ t) (sym (numbers_more c.args.values.now k c.loop-value-test.true))) (wrote_append _ _ _ _ _ _ _ _ l.invariant.0 c.put_after-i.ensures),
      omega (arith, c.put_after-i.ensures.place, number_length 19 (get_or c.args.values.now k 0) (omega (arith, (c.type_inv.values k).fits))),
    )

pub returns : goal.returns
returns c = wrote_as _ _ _ _ _ _ (numbers_all c.args.word.now c.args.values.now c.loop-value.value-index c.loop-value-test.false) (wrote_append _ _ _ _ _ _ _ _ c.loop-value.invariant.0 c.put_byte.ensures)
