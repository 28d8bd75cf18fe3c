-- `lists::Layout::note_goal` meets its contract: both stores are among the lists.
-- Assumes nothing.
use native.Mathlib.Omega.{arith}
use Rattle.lists.proofs.Stores.{aside_none, aside_set}
use Rattle.lists.proofs.Layout.note_goal.Goals as goal

pub returns-then-level-work : goal.returns-then-level-work
returns-then-level-work c =
    aside_set _ _ _ _ _ _ (omega arith) (omega arith) (aside_set _ _ _ _ _ _ (omega arith) (omega arith) (aside_none _ _ _))
