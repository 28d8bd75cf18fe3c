-- What `admit::lacking` leaves open, from the laws.
use mathlib.Core.Path.{sym, ◌∙◌}
use native.Mathlib.Omega.{arith}
use Rattle.admit.proofs.Admits.{lack_here, lack_next, lack_none}
use Rattle.admit.proofs.lacking.Goals as goal

pub returns-then-has-clause-lowest : goal.returns-then-has-clause-lowest
returns-then-has-clause-lowest c = lack_here c.loop-g.g c.args.choice (omega (arith, c.loop-g-test.true)) (sym c.has.ensures ∙ c.if-has.true) ∙ sym c.loop-g.invariant

pub loop-g-preserved : goal.loop-g-preserved
loop-g-preserved c = c.loop-g.invariant ∙ lack_next c.loop-g.g c.args.choice (omega (arith, c.loop-g-test.true)) (sym c.has.ensures ∙ c.if-has.false)

pub returns-clause-lowest : goal.returns-clause-lowest
returns-clause-lowest c = lack_none _ _ (omega (arith, c.loop-g-test.false)) ∙ sym c.loop-g.invariant
