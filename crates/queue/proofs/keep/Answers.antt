-- `queue::keep` meets its contract: the levels are carried on, and then lists alone are changed.
-- Assumes nothing.
use mathlib.Core.Path.{sym}
use Rattle.levels.proofs.Carrying.{length_carried}
use Rattle.lists.proofs.Stores.{aside_on, changes_front, front_long, layout_room}
use Rattle.queue.proofs.keep.Goals as goal

pub slice_bounds-carry-end-2 : goal.slice_bounds-carry-end-2
slice_bounds-carry-end-2 c = sym (front_long _ _ _ (layout_room c.args.layout _ c.requires.2))

pub returns : goal.returns
returns c =
    let t = changes_front _ _ _ _ _ (layout_room c.args.layout _ c.requires.2) c.carry.ensures (length_carried _ _) in
    aside_on _ _ _ _ _ _ (aside_on _ _ _ _ _ _ t c.lower_goal.ensures) c.keep_lists.ensures
