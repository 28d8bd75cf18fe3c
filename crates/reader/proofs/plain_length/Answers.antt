-- `reader::plain_length` meets its contract: the chain adds up the lengths of the clauses that a walk gives.
-- Assumes nothing.
use mathlib.Core.Path.{◌≡◌, ap, ◌∙◌}
use native.Mathlib.Omega.{arith}
use lib.ListN.{length}
use Rattle.std.proofs.Common.{rules}
use Rattle.book.specs.Clauses.{meant, clause_is, clauses_left}
use Rattle.book.proofs.Chains.{sum_fits, sum_is, walk_yields}
use Rattle.plain.specs.Plain.{plain_clauses}
use Rattle.reader.proofs.Reading.{plain_length}
use Rattle.reader.proofs.Walks.{clauses_joined, clauses_most}
use Rattle.reader.proofs.plain_length.Goals as goal
use Rattle.reader.proofs.plain_length.Goals.{After-sum}

pub sum-requires-clause-fits : goal.sum-requires-clause-fits
sum-requires-clause-fits c =
    sum_fits _ _ clauses_joined clause_is _ _ (walk_yields _ (ap clauses_left c.map.ensures.source ∙ c.walk.ensures.left)) c.map.ensures.closure (λ x r q k. search rules) _
    (omega (arith, clauses_most c.args.book.now))

total : (c : After-sum) → c.sum.result ≡ length (plain_clauses (meant c.args.book.now).clauses)
total c = sum_is _ _ clauses_joined clause_is _ _ (walk_yields _ (ap clauses_left c.map.ensures.source ∙ c.walk.ensures.left)) c.map.ensures.closure (λ x r q k. search rules) _ c.sum.ensures.ran

pub overflow_add-result : goal.overflow_add-result
overflow_add-result c = omega (arith, total c, clauses_most c.args.book.now)

pub returns : goal.returns
returns c = omega (arith, total c, plain_length (meant c.args.book.now))
