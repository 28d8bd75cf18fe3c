-- An accepted book has no more variables and clauses than a layout may have.
-- Assumes nothing.
use native.Mathlib.Omega.{arith}
use Rattle.book.proofs.Walk.{found}
use Rattle.lists.proofs.Layout.of.Goals as goal

pub invariant_of-result : goal.invariant_of-result
invariant_of-result c = let b = c.args.book.now in
    let good = found b in
    record { few_variables = omega (arith, good.variables, b.variables_are); few_clauses = omega (arith, good.clauses, b.clauses_are) }
