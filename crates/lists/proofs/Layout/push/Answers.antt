-- `lists::Layout::push` meets its contract: both stores are among the lists.
-- Assumes nothing.
use Rattle.lists.proofs.Stores.{aside_none, aside_set}
use Rattle.lists.proofs.Layout.push.Goals as goal

pub returns : goal.returns
returns c = let list = c.requires.1 in
    aside_set _ _ _ _ _ _ list.from list.to (aside_set _ _ _ _ _ _ c.link.ensures.from c.link.ensures.to (aside_none _ _ _))
