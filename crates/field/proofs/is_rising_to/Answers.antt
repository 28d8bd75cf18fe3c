-- What `field::is_rising_to` leaves open, from the laws.
use mathlib.Core.Path.{sym, ◌∙◌}
use Rattle.field.proofs.Words.{climbing_not, climbing_high, climbing_next, climbing_none}
use Rattle.field.proofs.is_rising_to.Goals as goal

pub returns-then-last-w : goal.returns-then-last-w
returns-then-last-w c = sym (c.loop-w.invariant ∙ climbing_not _ _ _ _ c.in-Some.ensures.steps _ c.if-last-w.true)

pub returns-then-high-w : goal.returns-then-high-w
returns-then-high-w c = sym (c.loop-w.invariant ∙ climbing_high _ _ _ _ c.in-Some.ensures.steps _ c.if-high-w.true)

pub loop-w-preserved : goal.loop-w-preserved
loop-w-preserved c = c.loop-w.invariant ∙ climbing_next _ _ _ _ c.in-Some.ensures.steps _ c.if-last-w.false c.if-high-w.false

pub returns : goal.returns
returns c = sym (c.loop-w.invariant ∙ climbing_none _ _ _ c.in-None.ensures.steps.0)
