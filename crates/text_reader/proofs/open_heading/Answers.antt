-- `text_reader::open_heading` meets its contract.
-- Assumes nothing.
use mathlib.Core.Path.{sym, ◌∙◌}
use Rattle.std.proofs.Common.{rules}
use Rattle.std.proofs.lemmas.Result.{err_from_is_err_and}
use Rattle.answer.proofs.Refusals.{number_some, right_where, cause_where}
use Rattle.text_reader.proofs.Openings.{heading_some, heading_none}
use Rattle.text_reader.proofs.open_heading.Goals as goal

pub returns-in_err-map_err : goal.returns-in_err-map_err
returns-in_err-map_err c =
    let p = err_from_is_err_and c.from_residual.result c.from_residual.ensures.1 in
    let q = cause_where c.test_heading.result c.in_err-map_err.field-0.0 c.args.line _ c.in_err-map_err.ensures.cases (λ e h. search rules) in
    rw (p.1, p.2, q.1) (heading_some _ _ _ _ (sym q.0 ∙ c.test_heading.ensures) (number_some _))

pub returns : goal.returns
returns c = heading_none _ _ _ (sym c.test_heading.ensures ∙ right_where _ c.in_ok-map_err.ensures.variant)
