-- `text_reader::split_line` meets its contract.
-- Assumes nothing.
use mathlib.Core.Path.{sym}
use native.Mathlib.Omega.{arith}
use lib.Seq.{length-take-le}
use Rattle.std.proofs.Common.{rules}
use Rattle.text_reader.proofs.Turns.{Turn, turn}
use Rattle.text_reader.proofs.split_line.Goals as goal
use Rattle.text_reader.proofs.split_line.Goals.{After-past-next}

cut : (c : After-past-next) → Turn c.args.text.now c.line_length-end.result c.past-next.result
cut c = turn _ _ _ (search rules) c.line_length-end.ensures c.past-next.ensures

pub slice_bounds-result-end : goal.slice_bounds-result-end
slice_bounds-result-end c = sym (length-take-le _ _ (cut (goal.at.slice_bounds-result-end c).After-past-next).short)

pub slice_bounds-result-count : goal.slice_bounds-result-count
slice_bounds-result-count c = (cut (goal.at.slice_bounds-result-count c).After-past-next).inside

pub slice_bounds-result-start : goal.slice_bounds-result-start
slice_bounds-result-start c = omega (arith, (cut (goal.at.slice_bounds-result-start c).After-past-next).inside)
