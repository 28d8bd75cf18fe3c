-- The next number of a part is the first of those that are left.
-- Assumes nothing.
use mathlib.Core.Path.{ap}
use native.Mathlib.Omega.{arith}
use lib.ListN.{length}
use Rattle.field.proofs.Words.{words_none, spelt}
use Rattle.field.proofs.NumbersIterator.next.Goals as goal

pub returns-then-self-lt2-clause-steps : goal.returns-then-self-lt2-clause-steps
returns-then-self-lt2-clause-steps c = let e = words_none _ c.if-self-lt2.true in (e, e)

pub returns-clause-steps : goal.returns-clause-steps
returns-clause-steps c = spelt _ _ c.if-self-lt2.false c.word_at-w.ensures

pub returns-clause-goes : goal.returns-clause-goes
returns-clause-goes c = let e = ap length (spelt _ _ c.if-self-lt2.false c.word_at-w.ensures) in
    record { on = λ f. (tt, tt, omega (arith, e)); keeps = tt; rests = λ f. tt }
