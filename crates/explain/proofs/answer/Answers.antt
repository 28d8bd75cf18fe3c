-- `explain::answer` meets its contract: the space is used, and then cleared.
-- Assumes nothing.
use mathlib.Core.Path.{refl, ◌∙◌}
use Rattle.admit.proofs.Admits.{cleared_again}
use Rattle.explain.proofs.answer.Goals as goal

pub returns : goal.returns
returns c =
    let w = c.smallest_within-found in
    (w.ensures.0, cleared_again _ _ w.new.work _ refl (w.ensures.1 ∙ c.leave_none_aside.ensures.beside.rest) c.clear.ensures)
