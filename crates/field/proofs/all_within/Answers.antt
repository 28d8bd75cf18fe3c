-- `field::all_within` meets its contract: `all` with the test of one number is `within`.
-- Assumes nothing.
use mathlib.Core.Path.{sym, ◌∙◌}
use mathlib.Core.Bool.{◌&&◌}
use lib.Dec.{leb}
use Rattle.std.proofs.Common.{rules, tests}
use Rattle.std.proofs.lemmas.Iterator.Consumers.{YieldsList-from_first}
use Rattle.std.proofs.lemmas.Iterator.Search.{all_from_yields_List}
use Rattle.field.specs.Left.{words_left}
use Rattle.field.proofs.Words.{within_all}
use Rattle.field.proofs.all_within.Goals as goal

pub returns : goal.returns
returns c =
    all_from_yields_List (λ w. leb c.args.low w && leb w c.args.high) c.all.new.self _ _ c.all.ensures.ran (YieldsList-from_first (λ w. w) words_left {s = c.words_of.result} _ c.words_of.ensures) (λ x b q k. search (rules, tests))
    ∙ sym (within_all _ _ _)
