-- What holds as a plain form is taken clause by clause.
--   taken_from v g n a      what is to be answered, where the book has n bytes so far and a is what is left
--   answer_of v g all       what `take_clauses` is to answer
--   Passing                the invariant of `take_clauses`: t is what is left, from index i on, with room for `left` clauses
--   scan_closed            what a scan that found nothing wrong says
--   passing_start, passing_done      its start and its end
--   passing_full, passing_bad, passing_wrong      its refusals: no room for a clause, its group, what a scan found
--   Next, passing_next     what a closed clause says, and the next turn
--   take_none, take_bad, take_one, take_groups, take_whole      the whole plain form, by its first two numbers
-- Assumes nothing.
use Prim.Native.Nat.{ℕ, zero, suc, ◌+◌, ◌-◌, ◌*◌, ◌≤◌, ◌<◌}
use mathlib.Core.Path.{◌≡◌, refl, sym, ap, ◌∙◌}
use mathlib.Core.List.{List, [], ◌∷◌}
use native.Mathlib.Omega.{arith}
use lib.IntN.{ℤ}
use lib.ListN.{length, take, drop, length-drop}
use borrow.Author.Tests.{ne_eqb}
use Rattle.answer.specs.Answer.{Answer, answered, refused, and_then, first, unless}
use Rattle.answer.proofs.Answers.{never, then_by, then_not, then_then}
use Rattle.field.proofs.Parts.{part_end}
use Rattle.meaning.specs.Book.{Clause, clause_from}
use Rattle.book.specs.Bytes.{most_variables, most_groups}
use Rattle.book.specs.Reading.{with_clauses}
use Rattle.book.proofs.Sizes.{clause_length, fields_length, book_length}
use Rattle.plain.specs.Taking.{number_at, named, groups_at, Ended, literals_at, starting, clauses_at, after_variables, taking}
use Rattle.plain.proofs.Back.{Place, place_more, literals_back}
use Rattle.writer.specs.Steps.{scan_of, taken_of}
use Rattle.writer.specs.declared.Scanned.{Scanned}
use Rattle.writer.specs.declared.Taken.{Taken}

-- the clauses from x on
module _ (v g i : ℕ) (x : ℤ) (u : List ℤ) where
  abbrev then_clause : ℕ → ℕ → Answer (List Clause)
  then_clause left n =
      and_then (literals_at v 0 0 0 (i + 1) u) (λ e. and_then (clauses_at v g left e.next e.rest) (λ cs. answered (clause_from (n ∷ []) e.head e.body ∷ cs)))

  clauses_full : clauses_at v g 0 i (x ∷ u) ≡ refused 6 i
  unfolding clauses_at starting groups_at first unless and_then
  clauses_full = refl

  clauses_on : (left : ℕ) → clauses_at v g (suc left) i (x ∷ u) ≡ and_then (number_at 0 g i x) (then_clause left)
  unfolding clauses_at starting groups_at first unless and_then
  clauses_on left =
      let z : suc left ≡ 0 → ⊥ = λ e. omega arith in
      simp (ne_eqb (suc left) 0 z)
      (then_then (number_at 0 g i x)
      (λ m. named (m ∷ []) (i + 1) u)
      (λ n. and_then (literals_at v 0 0 0 n.next n.rest) (λ e. and_then (clauses_at v g left e.next e.rest) (λ cs. answered (clause_from n.groups e.head e.body ∷ cs)))))

clauses_none : (v g left i : ℕ) (t : List ℤ) → length t ≡ 0 → clauses_at v g left i t ≡ answered []
unfolding clauses_at starting
clauses_none v g zero i [] e = refl
clauses_none v g (suc left) i [] e = refl
clauses_none v g left i (x ∷ t) e = absurd (omega arith)

-- what a scan says of the literals
pub scan_wrong : (c : ℕ) (a : Answer Ended) (n p : ℕ) → refused n p ≡ scan_of c a → a ≡ refused n p
unfolding scan_of
scan_wrong c (answered e) n p q = absurd (never _ n p (sym q))
scan_wrong c (refused m r) n p q = cc

pub scan_closed : (a : Answer Ended) (s : Scanned) → answered s ≡ scan_of 0 a → (e : Ended) × (a ≡ answered e) × (s.head ≡ e.head) × (s.count ≡ length e.body) × (s.next ≡ e.next)
unfolding scan_of
scan_closed (answered e) s q =
    let r : s ≡ record { head = e.head; count = 0 + length e.body; next = e.next } = cc in
    let z : 0 + length e.body ≡ length e.body = omega arith in
    (e, refl, ap (λ (k : Scanned). k.head) r, ap (λ (k : Scanned). k.count) r ∙ z, ap (λ (k : Scanned). k.next) r)
scan_closed (refused m p) s q = absurd (never _ m p q)

abbrev taken_as : ℕ → ℕ → ℕ → Answer Taken
taken_as v g n = answered (record { variables = v; groups = g; length = n })

unfoldable pub taken_from : ℕ → ℕ → ℕ → Answer (List Clause) → Answer Taken
taken_from v g n (answered cs) = taken_as v g (n + fields_length cs)
taken_from v g n (refused k i) = refused k i

from_none : (v g : ℕ) (a : Answer (List Clause)) → taken_of (and_then a (with_clauses v g)) ≡ taken_from v g 10 a
unfolding taken_of taken_from and_then
from_none v g (answered cs) = ap (taken_as v g) (book_length (record { variables = v; groups = g; clauses = cs }))
from_none v g (refused k i) = refl

from_more : (v g n m : ℕ) (c : Clause) (a : Answer (List Clause)) → n + m ≡ n + fields_length (c ∷ []) → taken_from v g n (and_then a (λ cs. answered (c ∷ cs))) ≡ taken_from v g (n + m) a
unfolding taken_from fields_length and_then
from_more v g n m c (answered cs) e = let q : n + fields_length (c ∷ cs) ≡ n + m + fields_length cs = omega arith in ap (taken_as v g) q
from_more v g n m c (refused k i) e = refl

abbrev pub answer_of : ℕ → ℕ → List ℤ → Answer Taken
answer_of v g all = taken_of (and_then (clauses_at v g 2048 2 all) (with_clauses v g))

pub record Passing (v g : ℕ) (all t : List ℤ) (i left n : ℕ) : Type 0 where
  pub answer : answer_of v g all ≡ taken_from v g n (clauses_at v g left i t)
  pub most : left ≤ 2048
  pub place : i + length t ≡ 2 + length all
  pub small : n + 71 * left ≤ 145418

pub passing_start : (v g : ℕ) (all : List ℤ) → Passing v g all all 2 2048 10
passing_start v g all = record { answer = from_none v g (clauses_at v g 2048 2 all); most = omega arith; place = refl; small = omega arith }

module _ (v g : ℕ) (all t : List ℤ) (i left n : ℕ) (p : Passing v g all t i left n) where
  pub passing_done : length t ≡ 0 → taken_as v g n ≡ answer_of v g all
  unfolding taken_from fields_length
  passing_done e =
      let a : n + 0 ≡ n = omega arith in
      sym (p.answer ∙ ap (taken_from v g n) (clauses_none v g left i t e) ∙ ap (taken_as v g) a)

  module _ (x : ℤ) (u : List ℤ) (is : t ≡ x ∷ u) where
    pub passing_full : left ≡ 0 → refused 6 i ≡ answer_of v g all
    unfolding taken_from
    passing_full e = sym (p.answer ∙ ap (taken_from v g n) (ap (clauses_at v g left i) is ∙ ap (λ (k : ℕ). clauses_at v g k i (x ∷ u)) e ∙ clauses_full v g i x u))

    module _ (room : left ≡ 0 → ⊥) where
      on : answer_of v g all ≡ taken_from v g n (and_then (number_at 0 g i x) (then_clause v g i x u (left - 1)))
      on = p.answer ∙ ap (taken_from v g n) (ap (clauses_at v g left i) is ∙ go left room)
        where
          go : (k : ℕ) → (k ≡ 0 → ⊥) → clauses_at v g k i (x ∷ u) ≡ and_then (number_at 0 g i x) (then_clause v g i x u (k - 1))
          go zero h = absurd (h refl)
          go (suc k) h = let e : suc k - 1 ≡ k = omega arith in simp e (clauses_on v g i x u k)

      pub passing_bad : (k q : ℕ) → refused k q ≡ number_at 0 g i x → refused k q ≡ answer_of v g all
      unfolding taken_from
      passing_bad k q e = sym (on ∙ ap (taken_from v g n) (then_not _ k q _ (sym e)))

      module _ (m : ℕ) (ok : answered m ≡ number_at 0 g i x) where
        pub passing_wrong : (k q : ℕ) → refused k q ≡ scan_of 0 (literals_at v 0 0 0 (i + 1) u) → refused k q ≡ answer_of v g all
        unfolding taken_from
        passing_wrong k q e = sym (on ∙ ap (taken_from v g n) (then_by _ m _ (sym ok) ∙ then_not _ k q _ (scan_wrong 0 _ k q e)))

        -- a clause was closed
        pub record Next (s : Scanned) : Type 0 where
          pub above : i < s.next
          pub inside : s.next ≤ i + length t
          pub few : s.count ≤ 32
          pub next : Passing v g all (take (length t - (s.next - i)) (drop (s.next - i) t)) s.next (left - 1) (n + (7 + 2 * s.count))

        pub passing_next : (s : Scanned) → answered s ≡ scan_of 0 (literals_at v 0 0 0 (i + 1) u) → Next s
        unfolding fields_length
        passing_next s q =
            let e = scan_closed (literals_at v 0 0 0 (i + 1) u) s q in
            let b = literals_back v 0 0 (i + 1) u e.0 (omega arith) e.1 in
            let a : Place i (x ∷ u) e.0.next e.0.rest = place_more i x u e.0.next e.0.rest b.place in
            let d : Clause = clause_from (m ∷ []) e.0.head e.0.body in
            let rest : drop (s.next - i) t ≡ e.0.rest = ap (drop (s.next - i)) is ∙ ap (λ (k : ℕ). drop (k - i) (x ∷ u)) e.4 ∙ a.rest in
            let long : length t ≡ length (x ∷ u) = ap length is in
            let inside : s.next ≤ i + length t = omega (arith, a.inside, e.4) in
            let end = part_end t (s.next - i) in
            let size : n + (7 + 2 * s.count) ≡ n + fields_length (d ∷ []) = omega (arith, clause_length d, e.3) in
            record {
              above = omega (arith, a.above, e.4);
              inside = inside;
              few = omega (arith, e.3, b.fine.few);
              next = record {
                answer = on
                    ∙ ap (taken_from v g n) (then_by _ m _ (sym ok) ∙ then_by _ e.0 _ e.1)
                    ∙ from_more v g n (7 + 2 * s.count) d (clauses_at v g (left - 1) e.0.next e.0.rest) size
                    ∙ simp (end ∙ rest) (ap (λ (k : ℕ). taken_from v g (n + (7 + 2 * s.count)) (clauses_at v g (left - 1) k e.0.rest)) (sym e.4));
                most = omega (arith, p.most);
                place = simp end (omega (arith, length-drop (s.next - i) t, p.place, a.above, e.4));
                small = omega (arith, p.small, e.3, b.fine.few);
              };
            }

-- the whole plain form
pub take_none : (s : List ℤ) → length s ≡ 0 → refused 12 0 ≡ taken_of (taking s)
unfolding taking taken_of
take_none [] e = refl
take_none (x ∷ s) e = absurd (omega arith)

module _ (s : List ℤ) (x : ℤ) (u : List ℤ) (cut : s ≡ x ∷ u) where
  pub take_bad : (k q : ℕ) → refused k q ≡ number_at 1 most_variables 0 x → refused k q ≡ taken_of (taking s)
  unfolding taking taken_of
  take_bad k q e = sym (ap taken_of (ap taking cut ∙ then_not _ k q _ (sym e)))

  module _ (v : ℕ) (ok : answered v ≡ number_at 1 most_variables 0 x) where
    on_variables : taking s ≡ after_variables v u
    unfolding taking
    on_variables = ap taking cut ∙ then_by _ v _ (sym ok)

    pub take_one : length u ≡ 0 → refused 12 1 ≡ taken_of (taking s)
    unfolding taken_of after_variables
    take_one e = sym (ap taken_of (on_variables ∙ go u e))
      where
        go : (w : List ℤ) → length w ≡ 0 → after_variables v w ≡ refused 12 1
        go [] e = refl
        go (y ∷ w) e = absurd (omega arith)

    module _ (y : ℤ) (w : List ℤ) (is : u ≡ y ∷ w) where
      pub take_groups : (k q : ℕ) → refused k q ≡ number_at 0 most_groups 1 y → refused k q ≡ taken_of (taking s)
      unfolding taken_of after_variables
      take_groups k q e = sym (ap taken_of (on_variables ∙ ap (after_variables v) is ∙ then_not _ k q _ (sym e)))

      pub take_whole : (g : ℕ) → answered g ≡ number_at 0 most_groups 1 y → answer_of v g w ≡ taken_of (taking s)
      unfolding after_variables
      take_whole g e = sym (ap taken_of (on_variables ∙ ap (after_variables v) is ∙ then_by _ g _ (sym e)))
