-- `queue::turn::Turn::holding_group` meets its contract: a group that `find` finds is one of the clause's.
-- Assumes nothing.
use Prim.Native.Nat.{ℕ}
use mathlib.Core.Path.{sym, ◌∙◌}
use mathlib.Core.Bool.{Bool}
use Rattle.std.proofs.Common.{rules, tests}
use Rattle.std.proofs.lemmas.Iterator.Adapters.{serves_from_places, option_map_id}
use Rattle.std.proofs.lemmas.Iterator.Consumers.{YieldsList-from_first}
use Rattle.std.proofs.lemmas.Iterator.Search.{find_from_yields_List}
use Rattle.std.proofs.lemmas.Option.{IfSome_then}
use lib.Dec.{leb}
use Rattle.field.specs.Left.{words_left}
use Rattle.marks.proofs.Tests.{within_at}
use Rattle.levels.specs.Levels.{group_level}
use Rattle.queue.proofs.Turns.{found_within}
use Rattle.queue.proofs.turn.Turn.holding_group.Goals as goal

pub find-requires-clause-callable : goal.find-requires-clause-callable
find-requires-clause-callable c =
    serves_from_places (YieldsList-from_first (λ w. w) words_left {s = c.words_of.result} _ c.words_of.ensures) (λ x q r. search rules)
    (λ x k l e. search (rules, e, within_at _ _ _ c.args.self.now.fits.groups k x l))

pub returns : goal.returns
returns c =
    let a = c.args.self.now.arrivals in
    let test : ℕ → Bool = λ w. leb c.args.level (group_level a.kept a.pool w) in
    let found = find_from_yields_List test c.find.new.self _ c.find.result c.find.ensures.ran
    (YieldsList-from_first (λ w. w) words_left {s = c.words_of.result} _ c.words_of.ensures) (λ x b q k. search (rules, tests)) in
    IfSome_then c.find.result (found_within test _ _ _ _ (sym (option_map_id c.find.result) ∙ found) c.args.self.now.fits.groups) (λ w k. k.1)
