-- The contracts of the exported calls determine what crosses and what every space holds.
--   count_crosses_one        of read, write, from_text and to_text; of check it is `crosses_one`
--   ask_crosses_one          of ask
--   explain_crosses_one      of explain
--   list_crosses_one         of round and list
-- Assumes nothing.
use Prim.Native.Nat.{ℕ}
use mathlib.Core.Path.{◌≡◌, sym, ap, ◌∙◌}
use mathlib.Core.List.{List}
use Rattle.answer.specs.Answer.{Answer}
use Rattle.answer.specs.Space.{counted, laid}
use Rattle.meaning.specs.Book.{Book}
use Rattle.ask.specs.Asks.{asked_is, Asking}
use Rattle.ask.proofs.Asks.{ask_one}
use Rattle.explain.specs.Explains.{explained_is, Explaining}
use Rattle.explain.proofs.Explains.{explain_one}
use Rattle.list.specs.Lists.{listed_is, Listing}
use Rattle.list.proofs.Lists.{list_one}
use Rattle.badolkhup.specs.Crossing.{Crosses, Crossing}
use Rattle.badolkhup.proofs.Crossing.{crosses_as, crosses_one}

pub count_crosses_one :
    (a : Answer (List ℕ)) (out o o' : List ℕ) {r r' : ℕ} {ns ns' : List ℕ}
    → Crosses (counted a) r ns × (o ≡ laid a out)
    → Crosses (counted a) r' ns' × (o' ≡ laid a out)
    → (r ≡ r') × (ns ≡ ns') × (o ≡ o')
count_crosses_one a out o o' p q =
    let both = crosses_one p.0 q.0 in
    (both.0, both.1, p.1 ∙ sym q.1)

pub ask_crosses_one :
    (a : Answer Book) (x : ℕ) (out work o o' w w' : List ℕ) {r r' : ℕ} {ns ns' : List ℕ}
    → Crossing asked_is (λ e. Asking a x e out work o w) r ns
    → Crossing asked_is (λ e. Asking a x e out work o' w') r' ns'
    → (r ≡ r') × (ns ≡ ns') × (o ≡ o') × (w ≡ w')
ask_crosses_one a x out work o o' w w' p q =
    let one = ask_one a x p.0 q.0 out work o o' w w' p.1.0 q.1.0 in
    let both = crosses_one (crosses_as (ap asked_is one.0) p.1.1) q.1.1 in
    (both.0, both.1, one.1, one.2)

pub explain_crosses_one :
    (a : Answer Book) (x : ℕ) (work w w' : List ℕ) {r r' : ℕ} {ns ns' : List ℕ}
    → Crossing explained_is (λ e. Explaining a x e work w) r ns
    → Crossing explained_is (λ e. Explaining a x e work w') r' ns'
    → (r ≡ r') × (ns ≡ ns') × (w ≡ w')
explain_crosses_one a x work w w' p q =
    let one = explain_one a x p.0 q.0 work w w' p.1.0 q.1.0 in
    let both = crosses_one (crosses_as (ap explained_is one.0) p.1.1) q.1.1 in
    (both.0, both.1, one.1)

pub list_crosses_one :
    (a : Answer Book) (k : ℕ) (ws : List ℕ) (c : ℕ) (work v v' w w' : List ℕ) {r r' : ℕ} {ns ns' : List ℕ}
    → Crossing listed_is (λ e. Listing a k e ws c work v w) r ns
    → Crossing listed_is (λ e. Listing a k e ws c work v' w') r' ns'
    → (r ≡ r') × (ns ≡ ns') × (v ≡ v') × (w ≡ w')
list_crosses_one a k ws c work v v' w w' p q =
    let one = list_one a k p.0 q.0 ws c work v v' w w' p.1.0 q.1.0 in
    let both = crosses_one (crosses_as (ap listed_is one.0) p.1.1) q.1.1 in
    (both.0, both.1, one.1, one.2)
