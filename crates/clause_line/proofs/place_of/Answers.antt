-- What `clause_line::place_of` leaves open, from the laws.
use Rattle.std.proofs.Common.{◌≡◌, length, rules, tests, leb, reverse, refl, arith}
use Rattle.std.specs.List.{take_while}
use Rattle.std.specs.Iterator.Adapters.{take_while_callee}
use Rattle.std.proofs.lemmas.Iterator.Search.{YieldsList-from_take_while}
use Rattle.std.proofs.lemmas.Iterator.Adapters.{YieldsList-from_rev_slice}
use Rattle.std.proofs.lemmas.Iterator.Consumers.{count_from_yields_List}
use Rattle.clause_line.proofs.Places.{place_back}
use Rattle.clause_line.proofs.place_of.Goals as goal

pub returns : goal.returns
returns c = let a = c.args in
    let q : c.count.result ≡ length (take_while (λ w. leb a.n w) (reverse a.words.now)) =
    count_from_yields_List c.take_while.result _ c.count.ensures.ran
    (YieldsList-from_take_while _ (λ w. leb a.n w) {f = take_while_callee c.take_while.result} (YieldsList-from_rev_slice a.words.now cc) refl (cc) (λ x b q k. search (rules, tests))) in
    omega (arith, q, place_back a.n a.words.now c.requires)
