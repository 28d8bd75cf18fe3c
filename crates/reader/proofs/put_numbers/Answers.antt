-- What `reader::put_numbers` leaves open, from the laws.
use mathlib.Core.Path.{◌≡◌, ap, ◌∙◌}
use mathlib.Core.List.{[], ◌∷◌}
use native.Mathlib.Omega.{arith}
use lib.ListN.{length, length-set}
use Rattle.std.proofs.Common.{rules, w32, to_z, of_z}
use Rattle.plain.specs.Plain.{each}
use Rattle.answer.proofs.Spaces.{writing_next, writing_end, wrote_one}
use Rattle.reader.proofs.put_numbers.Goals as goal

pub loop-n-preserved : goal.loop-n-preserved
unfolding each
loop-n-preserved g c =
    let l = c.loop-n.invariant in
    let kept : to_z w32 (of_z w32 c.sign.result) ≡ c.sign.result = search rules in (
      length-set _ _ _ ∙ l.0,
      omega (arith, l.1, ap length c.in-Some.ensures.steps),
      λ h is. writing_next _ _ _ _ _ _ (l.2 h is) (h c.in-Some.n ∷ []) _ _ _ (ap (each h) c.in-Some.ensures.steps) (rw (kept, is _ _ c.sign.ensures) (wrote_one _ _ _)),
    )

pub returns : goal.returns
unfolding each
returns g c = λ h is. writing_end _ _ _ _ _ _ (c.loop-n.invariant.2 h is) (ap (each h) c.in-None.ensures.steps.0)
