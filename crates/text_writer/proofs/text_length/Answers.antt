-- `text_writer::text_length` meets its contract: the `p` line, and the chain, which adds up the lengths of the clauses' lines.
-- Assumes nothing.
use Prim.Native.Nat.{◌+◌, ◌≤◌}
use mathlib.Core.Path.{◌≡◌, ap, ◌∙◌}
use native.Mathlib.Omega.{arith}
use lib.ListN.{length}
use Rattle.std.proofs.Common.{rules}
use Rattle.book.specs.declared.accepted.Book.{Book}
use Rattle.book.specs.Clauses.{meant, clause_is, clauses_left}
use Rattle.book.proofs.Chains.{may_call, sum_fits, sum_is, walk_yields}
use Rattle.book.proofs.Walk.{found}
use Rattle.text.specs.Writing.{clauses_text, heading_text}
use Rattle.text.proofs.Written.{clauses_joined, text_length, text_most}
use Rattle.text_writer.proofs.text_length.Goals as goal
use Rattle.text_writer.proofs.text_length.Goals.{After-sum}

most : (b : Book) → length (heading_text (meant b)) + length (clauses_text (meant b).clauses) ≤ 420000
most b = omega (arith, text_length (meant b), text_most (meant b) (found b))

pub sum-requires-clause-can : goal.sum-requires-clause-can
sum-requires-clause-can c =
    let yields = walk_yields _ (ap clauses_left c.map.ensures.source ∙ c.walk.ensures.left) in
    (tt, may_call _ _ clauses_joined clause_is _ yields (λ x q k. search rules) (λ x h. omega (arith, h, most c.args.book.now)))

pub sum-requires-clause-fits : goal.sum-requires-clause-fits
sum-requires-clause-fits c =
    sum_fits _ _ clauses_joined clause_is _ _ (walk_yields _ (ap clauses_left c.map.ensures.source ∙ c.walk.ensures.left)) c.map.ensures.closure (λ x r q k. search rules) _
    (omega (arith, most c.args.book.now))

total : (c : After-sum) → c.sum.result ≡ length (clauses_text (meant c.args.book.now).clauses)
total c = sum_is _ _ clauses_joined clause_is _ _ (walk_yields _ (ap clauses_left c.map.ensures.source ∙ c.walk.ensures.left)) c.map.ensures.closure (λ x r q k. search rules) _ c.sum.ensures.ran

pub overflow_add-result : goal.overflow_add-result
overflow_add-result c = omega (arith, total c, c.heading_length.ensures, most c.args.book.now)

pub returns : goal.returns
returns c = omega (arith, total c, c.heading_length.ensures, text_length (meant c.args.book.now))
