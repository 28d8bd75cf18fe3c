-- `list::add` meets its contract: the smallest explanation within the seed, or the repair that is its complement.
-- Assumes nothing.
use Prim.Native.Nat.{◌-◌, ◌^◌}
use mathlib.Core.Path.{ap, ◌∙◌}
use native.Mathlib.Omega.{arith}
use Rattle.rounds.specs.Records.{repairs}
use Rattle.records.specs.Words.{kind_of, set_of, record_is, put_record}
use Rattle.book.proofs.Walk.{found}
use Rattle.list.proofs.Adding.{found_explains, found_repairs}
use Rattle.list.proofs.add.Goals as goal
use Rattle.list.proofs.add.Goals.{in-Some, in-None}

pub all-requires : goal.all-requires
all-requires c = let b = c.args.book.now in omega (arith, b.groups_are, (found b).groups)

pub returns : goal.returns
returns c =
    let b = c.args.book.now in
    c.put_record.ensures
    ∙ ap (λ r. put_record c.args.records.now c.args.i (kind_of r) (set_of r)) (
    elim c.match-smallest_within.branch [
      | in-Some w ↦ ap record_is w.listed-is ∙ found_explains _ _ _ w.in-Some.ensures.0
      | in-None w ↦
          ap record_is w.listed-is ∙ ap (λ n. repairs (n - c.args.choice)) (w.all.ensures ∙ ap (λ g. 2 ^ g - 1) b.groups_are)
          ∙ found_repairs _ _ w.in-None.ensures.0
    ]
    )
