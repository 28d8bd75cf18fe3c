-- `lists::Layout::bring_back` meets its contract: the store is behind levels and places.
-- Assumes nothing.
use Rattle.lists.proofs.Stores.{aside_none, aside_set}
use Rattle.lists.proofs.Layout.bring_back.Goals as goal

pub returns : goal.returns
returns c = let at = c.aside_word-at.ensures in aside_set _ _ _ _ _ _ at.from at.to (aside_none _ _ _)
