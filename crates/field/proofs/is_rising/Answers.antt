-- What `field::is_rising` leaves open, from the laws.
use mathlib.Core.Path.{sym, ◌∙◌}
use Rattle.field.proofs.Words.{rising_not, rising_next, rising_none}
use Rattle.field.proofs.is_rising.Goals as goal

pub returns-then-w-last : goal.returns-then-w-last
returns-then-w-last c = sym (c.loop-w.invariant ∙ rising_not _ _ _ _ c.in-Some.ensures.steps c.if-w-last.true)

pub loop-w-preserved : goal.loop-w-preserved
loop-w-preserved c = c.loop-w.invariant ∙ rising_next _ _ _ _ c.in-Some.ensures.steps c.if-w-last.false

pub returns : goal.returns
returns c = sym (c.loop-w.invariant ∙ rising_none _ _ c.in-None.ensures.steps.0)
