-- `table::lay` meets its contract: no variable has a level, and the table is laid.
-- Assumes nothing.
use native.Mathlib.Omega.{arith}
use Rattle.table.proofs.Stores.{sized, kept_laid}
use Rattle.table.proofs.lay.Goals as goal

pub returns : goal.returns
returns c = let e = c.empty_lists.ensures in
    kept_laid _ _ _ (sized c.args.book.now) _ _ _ _ _ _ _ _ c.of-layout.ensures.variables e (omega (arith, c.requires, e.beside.long)) c.fill.ensures c.lay_clauses.ensures
