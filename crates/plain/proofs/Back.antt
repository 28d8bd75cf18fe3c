-- What is taken is what was given: where numbers are taken as a book, it is well formed and they are its plain form.
--   number_is                      a number that was taken
--   OneGroup, groups_is            the group that was taken
--   Place, place_more              where the numbers after a clause stand; the same with one number more before
--   Closed, literals_back          what a clause's literals were taken as
--   Taken                          the same of clauses
--   Given, taking_back             the same of a whole book
-- Assumes nothing.
use Prim.Native.Nat.{ℕ, zero, suc, ◌+◌, ◌-◌, ◌≤◌, ◌<◌}
use mathlib.Core.Path.{◌≡◌, refl, sym, ap, ◌∙◌}
use mathlib.Core.List.{List, [], ◌∷◌, ◌++◌}
use mathlib.Core.Bool.{true, not, false≢true}
use native.Mathlib.Omega.{arith}
use lib.IntN.{ℤ, pos, negsuc, nat_abs}
use lib.ListN.{length, drop}
use lib.Dec.{leb}
use borrow.Author.Tests.{leb-true, leb-false, ltb-false, eqb-false, not-false}
use Rattle.answer.specs.Answer.{Answer, answered, refused, and_then, ◌⇒◌, first}
use Rattle.answer.proofs.Answers.{never, then_is, unless_is}
use Rattle.answer.proofs.Tests.{first_clear}
use Rattle.field.specs.Words.{within, rising}
use Rattle.answer.proofs.Tests.{and_left, and_right}
use Rattle.field.proofs.Words.{one_within, cons_within, cons_rising}
use Rattle.meaning.specs.Book.{Clause, Book}
use Rattle.book.specs.Bytes.{most_variables, most_groups, most_clauses, most_body, GoodClauses, WellFormed}
use Rattle.book.specs.Reading.{with_clauses}
use Rattle.plain.specs.Plain.{each, literals, head_literal, plain_clause, plain_clauses, plain_of}
use Rattle.plain.specs.Taking.{between, number_at, Named, groups_at, head_tests, body_tests, Ended, literals_at, starting, clauses_at, after_variables, taking}
use Rattle.plain.proofs.Given.{plain_one, Fine}

-- the numbers ys stand in xs from index j on, where xs start at index i
pub record Place (i : ℕ) (xs : List ℤ) (j : ℕ) (ys : List ℤ) : Type 0 where
  pub above : i < j
  pub inside : j ≤ i + length xs
  pub rest : drop (j - i) xs ≡ ys

place_one : (i : ℕ) (x : ℤ) (xs : List ℤ) → Place i (x ∷ xs) (i + 1) xs
place_one i x xs =
    let e : i + 1 - i ≡ 1 = omega arith in
    record { above = omega arith; inside = omega arith; rest = ap (λ (k : ℕ). drop k (x ∷ xs)) e }

pub place_more : (i : ℕ) (x : ℤ) (xs : List ℤ) (j : ℕ) (ys : List ℤ) → Place (i + 1) xs j ys → Place i (x ∷ xs) j ys
place_more i x xs j ys p =
    let e : j - i ≡ suc (j - (i + 1)) = omega (arith, p.above) in
    record { above = omega (arith, p.above); inside = omega (arith, p.inside); rest = ap (λ (k : ℕ). drop k (x ∷ xs)) e ∙ p.rest }

unended : (v last count i : ℕ) → literals_at v 0 last count i [] ≡ refused 12 i
unfolding literals_at
unended v last count i = refl

between_is : (low high : ℕ) (x : ℤ) → between low high x ≡ true → (x ≡ pos (nat_abs x)) × (low ≤ nat_abs x) × (nat_abs x ≤ high)
unfolding between
between_is low high (pos n) e = (refl, leb-true low n (and_left (leb low n) (leb n high) e), leb-true n high (and_right (leb low n) (leb n high) e))
between_is low high (negsuc n) e = absurd (false≢true e)

pub number_is : (low high i : ℕ) (x : ℤ) (n : ℕ) → number_at low high i x ≡ answered n → (x ≡ pos n) × (low ≤ n) × (n ≤ high)
unfolding number_at
number_is low high i x n e =
    let u = unless_is (first ((not (between low high x) ⇒ 7) ∷ [])) i (answered (nat_abs x)) n e in
    let b = between_is low high x (not-false _ (first_clear ((not (between low high x) ⇒ 7) ∷ []) u.0).0) in
    let same : nat_abs x ≡ n = let q = u.1 in cc in
    (b.0 ∙ ap pos same, omega (arith, b.1), omega (arith, b.2))

pub record OneGroup (g left i : ℕ) (x : ℤ) (xs : List ℤ) (k : Named) : Type 0 where
  pub number : ℕ
  pub is : x ≡ pos number
  pub inside : number ≤ g
  pub room : 1 ≤ left
  pub groups : k.groups ≡ number ∷ []
  pub next : k.next ≡ i + 1
  pub rest : k.rest ≡ xs

pub groups_is : (g left i : ℕ) (x : ℤ) (xs : List ℤ) (k : Named) → groups_at g left i x xs ≡ answered k → OneGroup g left i x xs k
unfolding groups_at
groups_is g left i x xs k e =
    let u = unless_is _ i (and_then (number_at 0 g i x) (λ n. answered (record { groups = n ∷ []; next = i + 1; rest = xs }))) k e in
    let t = then_is (number_at 0 g i x) _ k u.1 in
    let z : left ≡ 0 → ⊥ = eqb-false _ _ (first_clear _ u.0).0 in
    let n = number_is 0 g i x t.0 t.1 in
    let q : record { groups = t.0 ∷ []; next = i + 1; rest = xs } ≡ k = let r = t.2 in cc in
    record {
      number = t.0;
      is = n.0;
      inside = n.2;
      room = omega arith;
      groups = sym (ap (λ (m : Named). m.groups) q);
      next = sym (ap (λ (m : Named). m.next) q);
      rest = sym (ap (λ (m : Named). m.rest) q);
    }

-- after a head nothing but the 0 is right
headed_back : (v h last count i : ℕ) (xs : List ℤ) (e : Ended) → literals_at v (suc h) last count i xs ≡ answered e
    → (xs ≡ pos 0 ∷ e.rest) × (e.head ≡ suc h) × (e.body ≡ []) × (e.next ≡ i + 1)
unfolding literals_at
headed_back v h last count i [] e q = absurd (never e 12 i (sym q))
headed_back v h last count i (pos zero ∷ xs) e q =
    let p : record { head = suc h; body = []; next = i + 1; rest = xs } ≡ e = cc in
    (ap (λ (k : Ended). pos 0 ∷ k.rest) p, sym (ap (λ (k : Ended). k.head) p), sym (ap (λ (k : Ended). k.body) p), sym (ap (λ (k : Ended). k.next) p))
headed_back v h last count i (pos (suc n) ∷ xs) e q =
    let u = unless_is (first (head_tests v (suc h) (suc n))) i (literals_at v (suc n) last count (i + 1) xs) e q in
    let z : suc h ≤ 0 = ltb-false _ _ (first_clear (head_tests v (suc h) (suc n)) u.0).1.0 in
    absurd (omega arith)
headed_back v h last count i (negsuc n ∷ xs) e q =
    let u = unless_is (first (body_tests v (suc h) last count (suc n))) i _ e q in
    let z : suc h ≤ 0 = ltb-false _ _ (first_clear (body_tests v (suc h) last count (suc n)) u.0).1.0 in
    absurd (omega arith)

-- what the literals xs were taken as, after `count` body literals up to `last`: they stand from index i on
pub record Closed (v last count i : ℕ) (xs : List ℤ) (e : Ended) : Type 0 where
  pub head : e.head ≤ v
  pub fine : Fine v last count e.body
  pub same : literals e.body ++ (head_literal e.head ++ (pos 0 ∷ e.rest)) ≡ xs
  pub place : Place i xs e.next e.rest

none : (v last count : ℕ) → count ≤ most_body → Fine v last count []
unfolding within rising
none v last count h = record { inside = refl; rises = refl; few = omega arith }

-- the first literal is the 0, the head, or one of the body
module _ (v last count i : ℕ) (m : count ≤ most_body) (xs : List ℤ) (e : Ended) where
  closed_zero : literals_at v 0 last count i (pos zero ∷ xs) ≡ answered e → Closed v last count i (pos zero ∷ xs) e
  unfolding literals_at each head_literal
  closed_zero q =
      let p : record { head = 0; body = []; next = i + 1; rest = xs } ≡ e = cc in
      simp (← p) (record { head = omega arith; fine = none v last count m; same = refl; place = place_one i (pos 0) xs })

  closed_head : (n : ℕ) → literals_at v 0 last count i (pos (suc n) ∷ xs) ≡ answered e → Closed v last count i (pos (suc n) ∷ xs) e
  unfolding literals_at each head_literal
  closed_head n q =
      let u = unless_is (first (head_tests v 0 (suc n))) i (literals_at v (suc n) last count (i + 1) xs) e q in
      let k = headed_back v n last count (i + 1) xs e u.1 in
      let most : suc n ≤ v = ltb-false _ _ (first_clear (head_tests v 0 (suc n)) u.0).0 in
      record {
        head = omega (arith, k.1);
        fine = simp k.2 (none v last count m);
        same = simp (k.1, k.2, k.0);
        place = simp (k.0, k.3) (place_more i (pos (suc n)) (pos 0 ∷ e.rest) (i + 1 + 1) e.rest (place_one (i + 1) (pos 0) e.rest));
      }

  closed_body : (n : ℕ) → literals_at v 0 last count i (negsuc n ∷ xs) ≡ answered e
      → ((k : Ended) → count + 1 ≤ most_body → literals_at v 0 (suc n) (count + 1) (i + 1) xs ≡ answered k → Closed v (suc n) (count + 1) (i + 1) xs k)
      → Closed v last count i (negsuc n ∷ xs) e
  unfolding literals_at each
  closed_body n q again =
      let more : Ended → Answer Ended = λ k. answered (record { head = k.head; body = suc n ∷ k.body; next = k.next; rest = k.rest }) in
      let u = unless_is (first (body_tests v 0 last count (suc n))) i (and_then (literals_at v 0 (suc n) (count + 1) (i + 1) xs) more) e q in
      let c = first_clear (body_tests v 0 last count (suc n)) u.0 in
      let t = then_is (literals_at v 0 (suc n) (count + 1) (i + 1) xs) more e u.1 in
      let some : count ≡ most_body → ⊥ = eqb-false _ _ c.1.1.1.0 in
      let r = again t.0 (omega arith) t.1 in
      let most : suc n ≤ v = ltb-false _ _ c.0 in
      let above : last < suc n = leb-false _ _ c.1.1.0 in
      let p : record { head = t.0.head; body = suc n ∷ t.0.body; next = t.0.next; rest = t.0.rest } ≡ e = let w = t.2 in cc in
      simp (← p)
      (record {
        head = r.head;
        fine = record {
          inside = cons_within 1 v (suc n) t.0.body (omega arith) most r.fine.inside;
          rises = cons_rising last (suc n) t.0.body above r.fine.rises;
          few = omega (arith, r.fine.few);
        };
        same = ap (λ (l : List ℤ). negsuc n ∷ l) r.same;
        place = place_more i (negsuc n) xs t.0.next t.0.rest r.place;
      })

pub literals_back : (v last count i : ℕ) (xs : List ℤ) (e : Ended) → count ≤ most_body → literals_at v 0 last count i xs ≡ answered e → Closed v last count i xs e
literals_back v last count i [] e m q = absurd (never e 12 i (sym q ∙ unended v last count i))
literals_back v last count i (pos zero ∷ xs) e m q = closed_zero v last count i m xs e q
literals_back v last count i (pos (suc n) ∷ xs) e m q = closed_head v last count i m xs e n q
literals_back v last count i (negsuc n ∷ xs) e m q = closed_body v last count i m xs e n q (λ k h p. literals_back v (suc n) (count + 1) (i + 1) xs k h p)

-- clause by clause
pub record Taken (v g left : ℕ) (xs : List ℤ) (cs : List Clause) : Type 0 where
  pub good : GoodClauses v g cs
  pub most : length cs ≤ left
  pub same : plain_clauses cs ≡ xs

taken_none : (v g left : ℕ) (cs : List Clause) → answered [] ≡ answered cs → Taken v g left [] cs
unfolding plain_clauses
taken_none v g left cs e = let a : [] ≡ cs = cc in simp (← a) (record { good = tt; most = omega arith; same = refl })

taken_more : (v g left i : ℕ) (x : ℤ) (xs : List ℤ) (k : Named) (e : Ended) (ds : List Clause)
    → OneGroup g (suc left) i x xs k → Closed v 0 0 k.next k.rest e → Taken v g left e.rest ds
    → Taken v g (suc left) (x ∷ xs) (record { groups = k.groups; head = e.head; body = e.body } ∷ ds)
unfolding plain_clauses
taken_more v g left i x xs k e ds o c t =
    let d : Clause = record { groups = k.groups; head = e.head; body = e.body } in
    record {
      good = (
        record {
          one = ap length o.groups;
          inside = simp o.groups (one_within 0 g o.number (omega arith) o.inside);
          head = c.head;
          few = omega (arith, c.fine.few);
          variables = c.fine.inside;
          rises = c.fine.rises;
        },
        t.good,
      );
      most = omega (arith, t.most);
      same = ap (λ (l : List ℤ). plain_clause d ++ l) t.same
          ∙ plain_one d o.number e.rest o.groups
          ∙ ap (λ (l : List ℤ). pos o.number ∷ l) c.same
          ∙ ap (λ (l : List ℤ). pos o.number ∷ l) o.rest
          ∙ ap (λ (y : ℤ). y ∷ xs) (sym o.is);
    }

clauses_back : (v g left i : ℕ) (xs : List ℤ) (cs : List Clause) → clauses_at v g left i xs ≡ answered cs → Taken v g left xs cs
unfolding clauses_at starting
clauses_back v g zero i [] cs q = taken_none v g zero cs q
clauses_back v g (suc left) i [] cs q = taken_none v g (suc left) cs q
clauses_back v g zero i (x ∷ xs) cs q =
    let n = then_is (groups_at g zero i x xs) (λ n. refused 6 i) cs q in
    let o = groups_is g zero i x xs n.0 n.1 in
    absurd (omega (arith, o.room))
clauses_back v g (suc left) i (x ∷ xs) cs q =
    let n = then_is (groups_at g (suc left) i x xs) _ cs q in
    let e = then_is (literals_at v 0 0 0 n.0.next n.0.rest) _ cs n.2 in
    let d = then_is (clauses_at v g left e.0.next e.0.rest) _ cs e.2 in
    let o = groups_is g (suc left) i x xs n.0 n.1 in
    let c = literals_back v 0 0 n.0.next n.0.rest e.0 (omega arith) e.1 in
    let t = clauses_back v g left e.0.next e.0.rest d.0 d.1 in
    let is : record { groups = n.0.groups; head = e.0.head; body = e.0.body } ∷ d.0 ≡ cs = let w = d.2 in cc in
    simp (← is) (taken_more v g left i x xs n.0 e.0 d.0 o c t)

pub record Given (xs : List ℤ) (b : Book) : Type 0 where
  pub good : WellFormed b
  pub same : plain_of b ≡ xs

whole_back : (v : ℕ) (x : ℤ) (xs : List ℤ) (b : Book) → (x ≡ pos v) × (1 ≤ v) × (v ≤ most_variables) → after_variables v xs ≡ answered b → Given (x ∷ xs) b
unfolding after_variables plain_of
whole_back v x [] b p q = absurd (never b 12 1 (sym q))
whole_back v x (y ∷ zs) b p q =
    let n = then_is (number_at 0 most_groups 1 y) _ b q in
    let g = n.0 in
    let d = then_is (clauses_at v g most_clauses 2 zs) (with_clauses v g) b n.2 in
    let r = number_is 0 most_groups 1 y g n.1 in
    let t = clauses_back v g most_clauses 2 zs d.0 d.1 in
    let is : record { variables = v; groups = g; clauses = d.0 } ≡ b = let w = d.2 in cc in
    simp (← is)
    (record {
      good = record { some = p.1; variables = p.2; groups = r.2; clauses = t.most; good = t.good };
      same = ap (λ (l : List ℤ). pos v ∷ (pos g ∷ l)) t.same ∙ ap (λ (z : ℤ). pos v ∷ (z ∷ zs)) (sym r.0) ∙ ap (λ (z : ℤ). z ∷ (y ∷ zs)) (sym p.0);
    })

pub taking_back : (xs : List ℤ) (b : Book) → taking xs ≡ answered b → Given xs b
unfolding taking
taking_back [] b q = absurd (never b 12 0 (sym q))
taking_back (x ∷ xs) b q =
    let n = then_is (number_at 1 most_variables 0 x) _ b q in
    whole_back n.0 x xs b (number_is 1 most_variables 0 x n.0 n.1) n.2
