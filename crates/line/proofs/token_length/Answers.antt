-- What `line::token_length` leaves open, from the laws.
use Rattle.std.proofs.Common.{◌∙◌, rules, tests}
use Rattle.std.proofs.lemmas.Iterator.{YieldsList-from_slice}
use Rattle.std.proofs.lemmas.Iterator.Search.{position_from_yields_List}
use Rattle.text.specs.Lines.{separates}
use Rattle.line.proofs.Tokens.{run_position}
use Rattle.line.proofs.token_length.Goals as goal

pub returns : goal.returns
returns c = c.unwrap_or.ensures
    ∙ run_position separates _ _
    (position_from_yields_List separates _ _ _ c.position.ensures.ran (YieldsList-from_slice c.args.line.now cc) (λ x b q k. search (rules, tests)))
