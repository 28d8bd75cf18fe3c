-- `lists::Layout::put_aside` meets its contract: the words are behind levels and places.
-- Assumes nothing.
use native.Mathlib.Omega.{arith}
use Rattle.lists.proofs.Stores.{aside_part}
use Rattle.lists.proofs.Layout.put_aside.Goals as goal

pub returns : goal.returns
returns c = aside_part _ _ _ _ _ _ (omega arith) (omega arith) c.requires c.fill.ensures.len
