-- `text_writer::body_length` meets its contract: the chain adds up the lengths of the literals.
-- Assumes nothing.
use mathlib.Core.Path.{ap, ◌∙◌}
use native.Mathlib.Omega.{arith}
use Rattle.std.proofs.Common.{rules}
use Rattle.std.proofs.lemmas.Iterator.Consumers.{YieldsList-from_first}
use Rattle.field.specs.Left.{words_left}
use Rattle.book.proofs.Chains.{sum_fits, sum_is}
use Rattle.text_writer.proofs.Putting.{body_joined}
use Rattle.text_writer.proofs.body_length.Goals as goal

pub sum-requires-clause-fits : goal.sum-requires-clause-fits
sum-requires-clause-fits c =
    let yields = YieldsList-from_first (λ w. w) words_left _ (ap words_left c.map.ensures.source ∙ c.words_of.ensures) in
    sum_fits _ _ body_joined (λ w. w) _ _ yields c.map.ensures.closure (λ x r q k. search rules) _ (omega (arith, c.requires))

pub returns : goal.returns
returns c =
    let yields = YieldsList-from_first (λ w. w) words_left _ (ap words_left c.map.ensures.source ∙ c.words_of.ensures) in
    sum_is _ _ body_joined (λ w. w) _ _ yields c.map.ensures.closure (λ x r q k. search rules) _ c.sum.ensures.ran
