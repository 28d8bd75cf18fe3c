-- `marks::in_force` meets its contract: `all` over the groups is `every`.
-- Assumes nothing.
use mathlib.Core.Path.{sym, ◌∙◌}
use Rattle.std.proofs.Common.{rules, tests}
use Rattle.std.proofs.lemmas.Iterator.Adapters.{serves_from_places}
use Rattle.std.proofs.lemmas.Iterator.Consumers.{YieldsList-from_first}
use Rattle.std.proofs.lemmas.Iterator.Search.{all_from_yields_List}
use Rattle.field.specs.Left.{words_left}
use Rattle.meaning.specs.Choice.{chosen}
use Rattle.marks.proofs.Tests.{every_all, within_at}
use Rattle.marks.proofs.in_force.Goals as goal

pub all-requires-clause-callable : goal.all-requires-clause-callable
all-requires-clause-callable c =
    serves_from_places (YieldsList-from_first (λ w. w) words_left {s = c.words_of.result} _ c.words_of.ensures) (λ x q r. search rules) (λ x k l e. search (rules, e, within_at _ _ _ c.requires k x l))

pub returns : goal.returns
returns c =
    all_from_yields_List (chosen c.args.choice) c.all.new.self _ _ c.all.ensures.ran (YieldsList-from_first (λ w. w) words_left {s = c.words_of.result} _ c.words_of.ensures) (λ x b q k. search (rules, tests))
    ∙ sym (every_all _ _)
