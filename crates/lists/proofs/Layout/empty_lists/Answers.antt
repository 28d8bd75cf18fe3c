-- `lists::Layout::empty_lists` meets its contract: the stores are behind levels and places.
-- Assumes nothing.
use native.Mathlib.Omega.{arith}
use Rattle.lists.proofs.Stores.{aside_set, aside_part}
use Rattle.lists.proofs.Layout.empty_lists.Goals as goal

pub returns : goal.returns
returns c =
    aside_set _ _ _ _ _ _ (omega arith) (omega arith) (aside_part _ _ _ _ _ _ (omega arith) (omega arith) c.requires c.fill.ensures.len)
