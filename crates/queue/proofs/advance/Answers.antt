-- `queue::advance` meets its contract: each call keeps the space.
-- Assumes nothing.
use Rattle.lists.proofs.Stores.{aside_as}
use Rattle.table.proofs.Stores.{sized, kept_aside, kept_on}
use Rattle.queue.proofs.Turns.{kept_turn}
use Rattle.queue.proofs.advance.Goals as goal

pub returns : goal.returns
returns c =
    let b = c.args.book.now in
    let l = c.of-layout.ensures in
    let k = kept_aside _ _ _ (sized b) _ _ _ _ c.requires.ready.1 (aside_as _ _ _ _ _ _ l.variables l.clauses c.pop.ensures.1) in
    kept_on _ _ _ _ _ _ k (kept_turn b _ _ _ _ k.ready c.requires.apart c.of.result _ c.of.ensures.stands c.of.ensures.layout c.of.ensures.arrivals c.take-fell.ensures)
