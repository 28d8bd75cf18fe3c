-- `field::is_short` meets its contract.
-- Assumes nothing.
use borrow.Author.Tests.{lt-ltb, le-ltb}
use Rattle.field.specs.Field.{short}
use Rattle.field.proofs.is_short.Goals as goal

pub returns-then-rest-lt3 : goal.returns-then-rest-lt3
unfolding short
returns-then-rest-lt3 c = simp (lt-ltb _ _ c.if-rest-lt3.true)

pub returns : goal.returns
unfolding short
returns c = simp (← c.size_of.ensures, le-ltb _ _ c.if-rest-lt3.false)
