-- `lists::Layout::pop` meets its contract: the store is among the lists.
-- Assumes nothing.
use Rattle.lists.proofs.Stores.{aside_none, aside_set}
use Rattle.lists.proofs.Layout.pop.Goals as goal

pub returns : goal.returns
returns c = (c.if-self-clause.false, aside_set _ _ _ _ _ _ c.requires.0.from c.requires.0.to (aside_none _ _ _))
