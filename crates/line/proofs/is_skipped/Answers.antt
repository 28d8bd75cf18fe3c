-- `line::is_skipped` meets its contract.
-- Assumes nothing.
use mathlib.Core.Path.{◌≡◌, ◌∙◌}
use mathlib.Core.Bool.{false}
use borrow.Author.Tests.{eq-eqb, eqb-true}
use Rattle.std.proofs.Common.{rules}
use Rattle.text.specs.Forms.{is_comment}
use Rattle.line.proofs.Tokens.{all_next, next_all}
use Rattle.line.proofs.Steps.{comment_first, start_blank, skipped_blank}
use Rattle.line.proofs.is_skipped.Goals as goal

pub returns : goal.returns
returns c =
    let l = c.args.line.now in
    let other : is_comment l ≡ false = search (rules, comment_first l) in
    ((λ t. start_blank l (next_all l _ c.gap.ensures (eqb-true _ _ t))), (λ e. eq-eqb _ _ (c.gap.ensures ∙ all_next l (skipped_blank l other e))))
