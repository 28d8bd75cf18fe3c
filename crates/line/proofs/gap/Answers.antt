-- What `line::gap` leaves open, from the laws.
use Rattle.std.proofs.Common.{◌∙◌, sym, not, rules, tests}
use Rattle.std.proofs.lemmas.Iterator.{YieldsList-from_slice}
use Rattle.std.proofs.lemmas.Iterator.Search.{position_from_yields_List}
use Rattle.text.specs.Lines.{separates}
use Rattle.line.proofs.Tokens.{run_position, gap_run}
use Rattle.line.proofs.gap.Goals as goal

pub returns : goal.returns
returns c = c.unwrap_or.ensures
    ∙ run_position (λ a. not (separates a)) _ _
    (position_from_yields_List (λ a. not (separates a)) _ _ _ c.position.ensures.ran (YieldsList-from_slice c.args.line.now cc) (λ x b q k. search (rules, tests)))
    ∙ sym (gap_run _)
