-- What `lists::Layout::bring_back_all` leaves open, from the laws.
use native.Mathlib.Omega.{arith}
use Rattle.marks.proofs.Tests.{within_first}
use Rattle.lists.proofs.Stores.{aside_on}
use Rattle.lists.proofs.Layout.bring_back_all.Goals as goal

pub bring_back-requires : goal.bring_back-requires
bring_back-requires c = let l = c.loop-variable in
    let k = within_first _ _ _ c.in-Some.ensures.steps _ _ l.invariant.1 in
    (k.0, k.1, omega (arith, c.requires.1, l.invariant.0.beside.long))

pub loop-variable-preserved : goal.loop-variable-preserved
loop-variable-preserved c = let l = c.loop-variable in
    (aside_on _ _ _ _ _ _ l.invariant.0 c.bring_back.ensures, (within_first _ _ _ c.in-Some.ensures.steps _ _ l.invariant.1).2)

pub loop-variable-preserved-then-bring_back : goal.loop-variable-preserved-then-bring_back
loop-variable-preserved-then-bring_back c = let l = c.loop-variable in
    (aside_on _ _ _ _ _ _ l.invariant.0 c.bring_back.ensures, (within_first _ _ _ c.in-Some.ensures.steps _ _ l.invariant.1).2)
