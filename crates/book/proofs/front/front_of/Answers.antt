-- `book::front_of` meets its contract.
-- Assumes nothing.
use native.Mathlib.Omega.{arith}
use lib.ListN.{length}
use borrow.Author.Tests.{lt-ltb, le-ltb}
use Rattle.book.specs.Front.{front_of}
use Rattle.book.proofs.front.front_of.Goals as goal

pub returns-then-rest-lt7 : goal.returns-then-rest-lt7
unfolding front_of
returns-then-rest-lt7 c = simp (lt-ltb (length c.args.rest.now) 7 (omega (arith, c.if-rest-lt7.true)))

pub returns : goal.returns
unfolding front_of
returns c = simp (← c.word_at.ensures, ← c.size_of.ensures, le-ltb (length c.args.rest.now) 7 (omega (arith, c.if-rest-lt7.false)))
