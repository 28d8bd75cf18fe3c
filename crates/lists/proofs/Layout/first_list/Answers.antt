-- `lists::Layout::first_list` meets its contract: the variables of the body are those of the book.
-- Assumes nothing.
use mathlib.Core.Path.{sym, ◌∙◌}
use Rattle.marks.proofs.Tests.{within_first}
use Rattle.lists.proofs.Layout.first_list.Goals as goal

pub at_variable-requires : goal.at_variable-requires
at_variable-requires c = let k = within_first _ _ _ (sym c.words_of.ensures ∙ c.in-Some.ensures.steps) _ _ c.requires.0 in (k.0, k.1)
