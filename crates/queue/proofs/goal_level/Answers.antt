-- `queue::goal_level` meets its contract: the run keeps the space, and its level is confirmed, or sweeps complete the levels.
-- Assumes nothing.
use Rattle.table.proofs.Stores.{sized, kept_on, kept_front}
use Rattle.queue.proofs.goal_level.Goals as goal

pub returns : goal.returns
returns c =
    let k = kept_front _ _ _ (sized c.args.book.now) _ _ _ c.run.ensures.ready _ c.goal_level.ensures.1 in
    (c.goal_level.ensures.0, kept_on _ _ _ _ _ _ c.run.ensures k)
