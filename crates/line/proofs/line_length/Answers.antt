-- What `line::line_length` leaves open, from the laws.
use Rattle.std.proofs.Common.{◌∙◌, rules, tests}
use Rattle.std.proofs.lemmas.Iterator.{YieldsList-from_slice}
use Rattle.std.proofs.lemmas.Iterator.Search.{position_from_yields_List}
use Rattle.text.specs.Lines.{ends}
use Rattle.line.proofs.Tokens.{run_position}
use Rattle.line.proofs.line_length.Goals as goal

pub returns : goal.returns
unfolding ends
returns c = c.unwrap_or.ensures
    ∙ run_position ends _ _
    (position_from_yields_List ends _ _ _ c.position.ensures.ran (YieldsList-from_slice c.args.text.now cc) (λ x b q k. search (rules, tests)))
