-- `marks::first_unmarked` meets its contract: it is what `find` finds.
-- Assumes nothing.
use Prim.Native.Nat.{◌-◌}
use mathlib.Core.Path.{sym, ◌∙◌}
use mathlib.Core.Bool.{not}
use lib.Dec.{eqb}
use lib.ListN.{get_or}
use Rattle.std.proofs.Common.{rules, tests}
use Rattle.std.proofs.lemmas.Iterator.Adapters.{serves_from_places, option_map_id}
use Rattle.std.proofs.lemmas.Iterator.Consumers.{YieldsList-from_first}
use Rattle.std.proofs.lemmas.Iterator.Search.{find_from_yields_List}
use Rattle.field.specs.Left.{words_left}
use Rattle.marks.proofs.Tests.{within_at, first_found}
use Rattle.marks.proofs.first_unmarked.Goals as goal

pub find-requires-clause-callable : goal.find-requires-clause-callable
find-requires-clause-callable c =
    serves_from_places (YieldsList-from_first (λ w. w) words_left {s = c.words_of.result} _ c.words_of.ensures) (λ x q r. search rules) (λ x k l e. search (rules, e, within_at _ _ _ c.requires k x l))

pub returns : goal.returns
returns c =
    sym (option_map_id c.find.result)
    ∙ find_from_yields_List (λ w. not (eqb (get_or c.args.marks.now (w - 1) 0) 1)) c.find.new.self _ c.find.result c.find.ensures.ran
    (YieldsList-from_first (λ w. w) words_left {s = c.words_of.result} _ c.words_of.ensures) (λ x b q k. search (rules, tests))
    ∙ first_found _ _ c.requires
