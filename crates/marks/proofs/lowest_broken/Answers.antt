-- `marks::lowest_broken` meets its contract: it is the clause whose place `position` gives.
-- Assumes nothing.
use mathlib.Core.Path.{◌≡◌, ap, ◌∙◌}
use mathlib.Core.Bool.{cond}
use lib.Dec.{ltb}
use Rattle.std.specs.Prelude.{None, Some}
use Rattle.std.specs.List.{position_or_len}
use mathlib.Core.Logic.{inl}
use native.Mathlib.Omega.{arith}
use lib.ListN.{length}
use Rattle.std.proofs.Common.{rules, tests}
use Rattle.std.proofs.lemmas.Iterator.Adapters.{serves_from_places}
use Rattle.std.proofs.lemmas.Iterator.Search.{position_from_yields_List}
use Rattle.book.specs.Clauses.{meant}
use Rattle.book.proofs.Walk.{found}
use Rattle.book.proofs.Chains.{walk_yields}
use Rattle.meaning.specs.Forced.{broken}
use Rattle.marks.proofs.Walks.{fits_at, unbroken_all, broken_first}
use Rattle.marks.proofs.lowest_broken.Goals as goal
use Rattle.marks.proofs.lowest_broken.Goals.{After-position}

-- the place that `position` gives
place : (c : After-position)
    → let test = broken c.args.choice c.args.marks.now in
    let all = (meant c.args.book.now).clauses in
    c.position.result ≡ cond (ltb (position_or_len test all) (length all)) (Some (position_or_len test all)) None
place c =
    position_from_yields_List (broken c.args.choice c.args.marks.now) c.position.new.self _ c.position.result c.position.ensures.ran
    (walk_yields {w = c.walk.result} _ c.walk.ensures.left) (λ x b q k. search (rules, tests))

pub position-requires-clause-callable : goal.position-requires-clause-callable
position-requires-clause-callable c =
    serves_from_places (walk_yields {w = c.walk.result} _ c.walk.ensures.left) (λ x q r. search rules)
    (λ x k l e. let w = fits_at _ _ _ (found c.args.book.now) c.requires k l e in search (rules, w.0))

pub position-requires-clause-fits : goal.position-requires-clause-fits
position-requires-clause-fits c = inl (omega (arith, ap length c.walk.ensures.left, (found c.args.book.now).clauses))

pub returns-in_err-place : goal.returns-in_err-place
returns-in_err-place c = c.from_residual.ensures ∙ unbroken_all _ _ _ _ (place (goal.at.returns-in_err-place c).After-position) c.in_err-place.was

pub overflow_cast-result : goal.overflow_cast-result
overflow_cast-result c = omega (arith, c.in_ok-place.ensures.bound, ap length c.walk.ensures.left, (found c.args.book.now).clauses)

pub overflow_add-result : goal.overflow_add-result
overflow_add-result c = omega (arith, c.in_ok-place.ensures.bound, ap length c.walk.ensures.left, (found c.args.book.now).clauses)

pub returns : goal.returns
returns c = broken_first _ _ _ _ (place (goal.at.returns c).After-position) _ c.in_ok-place.was
