-- `lists::Layout::keep_lists` meets its contract: it changes lists alone.
-- Assumes nothing.
use native.Mathlib.Omega.{arith}
use Rattle.lists.proofs.Stores.{aside_on, aside_part}
use Rattle.lists.proofs.Layout.keep_lists.Goals as goal

pub returns : goal.returns
returns c = let moved = c.move_all.ensures in
    aside_on _ _ _ _ _ _
    (aside_on _ _ _ _ _ _ moved (aside_part _ _ _ _ _ _ (omega arith) (omega arith) (omega (arith, c.requires.1, moved.beside.long)) c.fill.ensures.len))
    c.move_all-2.ensures
