-- `levels::is_closed` meets its contract: `all` over the clauses.
-- Assumes nothing.
use mathlib.Core.Path.{sym, ◌∙◌}
use Rattle.std.proofs.Common.{rules, tests}
use Rattle.std.proofs.lemmas.Iterator.Adapters.{serves_from_places}
use Rattle.std.proofs.lemmas.Iterator.Search.{all_from_yields_List}
use Rattle.book.proofs.Walk.{found}
use Rattle.book.proofs.Chains.{walk_yields}
use Rattle.marks.proofs.Walks.{fits_at}
use Rattle.levels.specs.Levels.{stands, granted}
use Rattle.levels.proofs.Confirming.{closed_all}
use Rattle.levels.proofs.is_closed.Goals as goal

pub all-requires-clause-callable : goal.all-requires-clause-callable
all-requires-clause-callable c =
    serves_from_places (walk_yields {w = c.walk.result} _ c.walk.ensures.left) (λ x q r. search rules)
    (λ x k l e. let w = fits_at _ _ _ (found c.args.book.now) c.requires.0 k l e in search (rules, w.0, w.1, c.requires.1))

pub returns : goal.returns
returns c =
    all_from_yields_List (stands c.args.choice c.args.bound (granted c.args.levels.now)) c.all.new.self _ _ c.all.ensures.ran
    (walk_yields {w = c.walk.result} _ c.walk.ensures.left) (λ x b q k. search (rules, tests))
    ∙ sym (closed_all _ _ _ _)
