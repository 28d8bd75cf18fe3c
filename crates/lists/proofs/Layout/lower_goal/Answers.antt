-- `lists::Layout::lower_goal` meets its contract: the store is among the lists.
-- Assumes nothing.
use native.Mathlib.Omega.{arith}
use Rattle.lists.proofs.Stores.{aside_none, aside_set}
use Rattle.lists.proofs.Layout.lower_goal.Goals as goal

pub returns : goal.returns
returns c = aside_set _ _ _ _ _ _ (omega arith) (omega arith) (aside_none _ _ _)
