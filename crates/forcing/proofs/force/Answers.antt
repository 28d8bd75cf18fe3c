-- `forcing::force` meets its contract: each call keeps the space, and the last one ends with the forced variables.
-- Assumes nothing.
use native.Mathlib.Omega.{arith}
use Rattle.meaning.proofs.Choices.{digit_lt, digit_none}
use Rattle.lists.proofs.Stores.{aside_as}
use Rattle.table.proofs.Stores.{sized, kept_on, kept_after}
use Rattle.forcing.proofs.Ends.{forcing}
use Rattle.forcing.proofs.force.Goals as goal

-- no group is in the pool
pub run-requires : goal.run-requires
run-requires c = record { apart = λ g. omega (arith, digit_none g, digit_lt c.args.choice g); ready = c.lay.ensures.ready }

pub returns : goal.returns
returns c =
    let b = c.args.book.now in
    let l = c.of.ensures in
    let began = kept_after _ _ _ (sized b) _ _ _ _ _ (aside_as _ _ _ _ _ _ l.variables l.clauses c.leave_none_aside.ensures) c.lay.ensures in
    forcing b _ _ _ _ _ _ (kept_on _ _ _ _ _ _ began c.run.ensures) c.finish.ensures
