-- What holds as a clause's literals are scanned.
--   cut                 what is left of some numbers, by the next
--   Scanning            the invariant of `scan_clause`: t is what is left, from index i on
--   scanning_start      its start
--   scanning_none, scanning_zero, scanning_bad_head, scanning_bad_body      its ways out, by the first of t: none, the 0, a wrong literal
--   scanning_head, scanning_body      its next turn, after a right one
--   head_most, body_most      a literal that is right names a variable
-- Assumes nothing.
use Prim.Native.Nat.{ℕ, zero, suc, ◌+◌, ◌≤◌, ◌<◌}
use mathlib.Core.Path.{◌≡◌, refl, sym, ap, ◌∙◌}
use mathlib.Core.List.{List, [], ◌∷◌}
use native.Mathlib.Omega.{arith}
use lib.IntN.{ℤ, pos}
use lib.ListN.{length, get_or, drop}
use lib.Seq.{drop-cons}
use borrow.Author.Tests.{ltb-false, eqb-false}
use Rattle.std.proofs.Math.Numerals.{add-one}
use Rattle.answer.specs.Answer.{Answer, answered, refused, and_then, first, unless}
use Rattle.answer.specs.Refusals.{number_of}
use Rattle.answer.specs.declared.Cause.{Cause}
use Rattle.answer.proofs.Answers.{unless_none, unless_some}
use Rattle.answer.proofs.Refusals.{number_some}
use Rattle.answer.proofs.Tests.{first_clear}
use Rattle.signed.specs.Signed.{signed_of}
use Rattle.signed.specs.declared.Signed.TheVariants as SignedV
use Rattle.signed.proofs.Split.{is_plus, is_minus_lem}
use Rattle.plain.specs.Taking.{head_tests, body_tests, Ended, ended, literals_at}
use Rattle.writer.specs.Steps.{scan_of}
use Rattle.writer.specs.declared.Scanned.{Scanned}

pub cut : (s : List ℤ) (i : ℕ) → i < length s → drop i s ≡ get_or s i (pos 0) ∷ drop (i + 1) s
cut s i h = rw (add-one, drop-cons s i (pos 0))

pub head_most : (v h n : ℕ) → first (head_tests v h n) ≡ 0 → n ≤ v
head_most v h n e = ltb-false v n (first_clear (head_tests v h n) e).0

pub body_most : (v h last count n : ℕ) → first (body_tests v h last count n) ≡ 0 → (n ≤ v) × (count ≡ 32 → ⊥)
body_most v h last count n e = let c = first_clear (body_tests v h last count n) e in (ltb-false v n c.0, eqb-false count 32 c.1.1.1.0)

abbrev scanned : ℕ → ℕ → ℕ → Answer Scanned
scanned h k j = answered (record { head = h; count = k; next = j })

scan_cons : (n count : ℕ) (a : Answer Ended) → scan_of count (and_then a (λ e. ended e.head (n ∷ e.body) e.next e.rest)) ≡ scan_of (count + 1) a
unfolding scan_of and_then
scan_cons n count (answered e) = let q : count + suc (length e.body) ≡ count + 1 + length e.body = omega arith in ap (λ (k : ℕ). scanned e.head k e.next) q
scan_cons n count (refused k i) = refl

pub record Scanning (v at : ℕ) (s t : List ℤ) (h last count i : ℕ) : Type 0 where
  pub answer : scan_of 0 (literals_at v 0 0 0 at s) ≡ scan_of count (literals_at v h last count i t)
  pub few : count ≤ 32

pub scanning_start : (v at : ℕ) (s : List ℤ) → Scanning v at s s 0 0 0 (at + 0)
scanning_start v at s = let e : at + 0 ≡ at = omega arith in simp e (record { answer = refl; few = omega arith })

module _ (v at : ℕ) (s t : List ℤ) (h last count i : ℕ) (p : Scanning v at s t h last count i) where
  pub scanning_none : t ≡ [] → refused 12 i ≡ scan_of 0 (literals_at v 0 0 0 at s)
  unfolding scan_of literals_at
  scanning_none e = sym (p.answer ∙ ap (λ (l : List ℤ). scan_of count (literals_at v h last count i l)) e)

  module _ (x : ℤ) (u : List ℤ) (is : t ≡ x ∷ u) (n : ℕ) where
    module _ (e : signed_of x ≡ SignedV.Plus n) where
      on_plus : scan_of 0 (literals_at v 0 0 0 at s) ≡ scan_of count (literals_at v h last count i (pos n ∷ u))
      on_plus = p.answer ∙ ap (λ (l : List ℤ). scan_of count (literals_at v h last count i l)) (is ∙ ap (λ (y : ℤ). y ∷ u) (is_plus x n e))

      pub scanning_zero : n ≡ 0 → scanned h count (i + 1) ≡ scan_of 0 (literals_at v 0 0 0 at s)
      unfolding scan_of literals_at
      scanning_zero z =
          let q : count + 0 ≡ count = omega arith in
          sym (on_plus ∙ ap (λ (k : ℕ). scan_of count (literals_at v h last count i (pos k ∷ u))) z ∙ ap (λ (k : ℕ). scanned h k (i + 1)) q)

      module _ (z : n ≡ 0 → ⊥) where
        on_head : scan_of 0 (literals_at v 0 0 0 at s) ≡ scan_of count (unless (first (head_tests v h n)) i (literals_at v n last count (i + 1) u))
        unfolding literals_at
        on_head = on_plus ∙ ap (scan_of count) (go n z)
          where
            go : (m : ℕ) → (m ≡ 0 → ⊥) → literals_at v h last count i (pos m ∷ u) ≡ unless (first (head_tests v h m)) i (literals_at v m last count (i + 1) u)
            go zero z = absurd (z refl)
            go (suc m) z = refl

        pub scanning_bad_head : (c : Cause) → number_of c ≡ first (head_tests v h n) → refused (number_of c) i ≡ scan_of 0 (literals_at v 0 0 0 at s)
        unfolding scan_of
        scanning_bad_head c b = sym (on_head ∙ ap (scan_of count) (unless_some (number_of c) _ i _ b (number_some c)))

        pub scanning_head : first (head_tests v h n) ≡ 0 → Scanning v at s u n last count (i + 1)
        scanning_head b = record { answer = on_head ∙ ap (scan_of count) (unless_none _ i _ b); few = p.few }

    module _ (e : signed_of x ≡ SignedV.Minus n) where
      on_body : scan_of 0 (literals_at v 0 0 0 at s)
          ≡ scan_of count (unless (first (body_tests v h last count n)) i (and_then (literals_at v h n (count + 1) (i + 1) u) (λ e. ended e.head (n ∷ e.body) e.next e.rest)))
      unfolding literals_at
      on_body =
          let m = is_minus_lem x n e in
          p.answer
          ∙ ap (λ (l : List ℤ). scan_of count (literals_at v h last count i l)) (is ∙ ap (λ (y : ℤ). y ∷ u) m.1)
          ∙ ap (λ (k : ℕ). scan_of count (unless (first (body_tests v h last count k)) i (and_then (literals_at v h k (count + 1) (i + 1) u) (λ e. ended e.head (k ∷ e.body) e.next e.rest)))) (sym m.2)

      pub scanning_bad_body : (c : Cause) → number_of c ≡ first (body_tests v h last count n) → refused (number_of c) i ≡ scan_of 0 (literals_at v 0 0 0 at s)
      unfolding scan_of
      scanning_bad_body c b = sym (on_body ∙ ap (scan_of count) (unless_some (number_of c) _ i _ b (number_some c)))

      pub scanning_body : first (body_tests v h last count n) ≡ 0 → Scanning v at s u h n (count + 1) (i + 1)
      scanning_body b =
          let most = body_most v h last count n b in
          record {
            answer = on_body ∙ ap (scan_of count) (unless_none _ i _ b) ∙ scan_cons n count (literals_at v h n (count + 1) (i + 1) u);
            few = omega (arith, p.few, most.1);
          }
