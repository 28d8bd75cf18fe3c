-- `levels::is_held` meets its contract: `any` over the body finds a level that reaches the bound.
-- Assumes nothing.
use Prim.Native.Nat.{◌-◌}
use mathlib.Core.Path.{◌∙◌}
use lib.Dec.{leb}
use lib.ListN.{get_or}
use Rattle.std.proofs.Common.{rules, tests}
use Rattle.std.proofs.lemmas.Iterator.Adapters.{serves_from_places}
use Rattle.std.proofs.lemmas.Iterator.Consumers.{YieldsList-from_first}
use Rattle.std.proofs.lemmas.Iterator.Search.{any_from_yields_List}
use Rattle.field.specs.Left.{words_left}
use Rattle.marks.proofs.Tests.{within_at}
use Rattle.levels.specs.Levels.{granted_to}
use Rattle.levels.proofs.Granting.{held_any}
use Rattle.levels.proofs.is_held.Goals as goal

pub any-requires-clause-callable : goal.any-requires-clause-callable
any-requires-clause-callable c =
    serves_from_places (YieldsList-from_first (λ w. w) words_left {s = c.words_of.result} _ c.words_of.ensures) (λ x q r. search rules) (λ x k l e. search (rules, e, within_at _ _ _ c.requires.1 k x l))

pub returns : goal.returns
returns c =
    any_from_yields_List (λ w. leb c.args.bound (granted_to (get_or c.args.levels.now (w - 1) 0))) c.any.new.self _ _ c.any.ensures.ran
    (YieldsList-from_first (λ w. w) words_left {s = c.words_of.result} _ c.words_of.ensures) (λ x b q k. search (rules, tests))
    ∙ held_any _ _ _ c.requires.0 c.requires.1
