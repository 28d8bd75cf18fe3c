-- `queue::turn::Turn::take` meets its contract: at each `return` the levels are those that the turn of the clause leaves.
-- Assumes nothing.
use Rattle.levels.proofs.Totals.{length_turn}
use Rattle.levels.proofs.Turns.{clause_none}
use Rattle.lists.proofs.Stores.{aside_none, aside_on, changes_front, layout_room}
use Rattle.queue.proofs.Turns.{stepped_same, turn_done}
use Rattle.queue.proofs.turn.Turn.take.Goals as goal

pub returns-then-head-eq0 : goal.returns-then-head-eq0
returns-then-head-eq0 c = stepped_same _ _ _ _ _ _ _ (clause_none _ _ _ _ c.if-head-eq0.true) c.take_goal.ensures

pub returns-then-work-h-eq0 : goal.returns-then-work-h-eq0
returns-then-work-h-eq0 c = stepped_same _ _ _ _ _ _ _ (turn_done _ _ _ _ _ c.if-head-eq0.false c.args.self.now.head c.if-work-h-eq0.true) (aside_none _ _ _)

pub returns-then-fell-eq0 : goal.returns-then-fell-eq0
returns-then-fell-eq0 c =
    aside_on _ _ _ _ _ _ (changes_front _ _ _ _ _ (layout_room c.args.self.now.layout _ c.requires) c.turn-fell.ensures.levels (length_turn _ _ _ _)) c.wait.ensures

pub returns : goal.returns
returns c =
    let t = changes_front _ _ _ _ _ (layout_room c.args.self.now.layout _ c.requires) c.turn-fell.ensures.levels (length_turn _ _ _ _) in
    aside_on _ _ _ _ _ _ (aside_on _ _ _ _ _ _ t c.wake.ensures) c.wait-2.ensures
