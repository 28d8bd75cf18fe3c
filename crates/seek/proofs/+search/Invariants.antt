-- `seek::search` calls itself with fewer free groups: their number as a choice is smaller.
-- Assumes nothing.
use Rattle.seek.proofs.+search.Given as goal

abbrev pub decreases-search : goal.decreases-search
decreases-search l = l.before.sides.free
