-- `ask::ask` meets its contract: what was found, as `Asked`.
-- Assumes nothing.
use mathlib.Core.Path.{◌∙◌}
use Rattle.ask.proofs.ask.Goals as goal

pub returns : goal.returns
returns c = let t = c.find_goal.ensures in (c.from.ensures ∙ t.0, t.1, t.2)
