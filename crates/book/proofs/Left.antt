-- What is left of a book's clauses, byte by byte.
--   split        a number is below another, or it is not
--   left_short, walks_short      where no clause can stand
--   left_step, walks_step, walks_first      at a clause
--   behind, next_left, next_walks      behind the clause
--   first_groups, first_body, parts_spell      the parts of the field that stands first spell its clause
-- Assumes nothing.
use Prim.Native.Nat.{ℕ, zero, suc, ◌-◌, ◌≤◌, ◌<◌}
use mathlib.Core.Path.{◌≡◌, refl, sym, ap, ◌∙◌}
use mathlib.Core.List.{List, [], ◌∷◌}
use mathlib.Core.Logic.{◌⊎◌, inl, inr}
use mathlib.Core.Bool.{true, ◌&&◌}
use native.Mathlib.Omega.{arith}
use lib.ListN.{length, take, drop, length-drop}
use lib.Dec.{leb}
use borrow.Author.Tests.{lt-ltb, le-ltb, leb-true, le-leb}
use Rattle.answer.proofs.Tests.{and_left, and_right}
use Rattle.field.specs.Words.{words}
use Rattle.field.specs.Field.{len, size, after}
use Rattle.field.proofs.Parts.{part_end}
use Rattle.field.proofs.Words.{words_two}
use Rattle.meaning.specs.Book.{Clause, clause_from}
use Rattle.book.specs.Reading.{group_of, head_of, body_part, clause_of}
use Rattle.book.specs.Walk.{walks, left}

pub split : (m n : ℕ) → (m < n) ⊎ (n ≤ m)
split m zero = inr (omega arith)
split zero (suc n) = inl (omega arith)
split (suc m) (suc n) = elim (split m n) [ inl h ↦ inl (omega (arith, h)) | inr h ↦ inr (omega (arith, h)) ]

shorter : (r : List ℕ) → 7 ≤ length r → length (after r) < length r
shorter r h = omega (arith, length-drop (size r) r)

pub left_short : (n : ℕ) (r : List ℕ) → length r < 7 → left n r ≡ []
unfolding left
left_short zero r h = refl
left_short (suc n) r h = simp (lt-ltb (length r) 7 h)

pub walks_short : (n : ℕ) (r : List ℕ) → length r < 7 → walks n r ≡ true
unfolding walks
walks_short zero r h = refl
walks_short (suc n) r h = simp (lt-ltb (length r) 7 h)

left_more : (n m : ℕ) (r : List ℕ) → length r ≤ n → length r ≤ m → left n r ≡ left m r
unfolding left
left_more zero m r p q = sym (left_short m r (omega (arith, p)))
left_more (suc n) zero r p q = left_short (suc n) r (omega (arith, q))
left_more (suc n) (suc m) r p q =
    elim (split (length r) 7) [
      | inl h ↦ simp (lt-ltb (length r) 7 h)
      | inr h ↦
          let s = shorter r h in
          simp (le-ltb (length r) 7 h) (ap (λ cs. clause_of r ∷ cs) (left_more n m (after r) (omega (arith, p, s)) (omega (arith, q, s))))
    ]

walks_more : (n m : ℕ) (r : List ℕ) → length r ≤ n → length r ≤ m → walks n r ≡ walks m r
unfolding walks
walks_more zero m r p q = sym (walks_short m r (omega (arith, p)))
walks_more (suc n) zero r p q = walks_short (suc n) r (omega (arith, q))
walks_more (suc n) (suc m) r p q =
    elim (split (length r) 7) [
      | inl h ↦ simp (lt-ltb (length r) 7 h)
      | inr h ↦
          let s = shorter r h in
          simp (le-ltb (length r) 7 h) (ap (λ b. leb 7 (size r) && leb (size r) (length r) && b) (walks_more n m (after r) (omega (arith, p, s)) (omega (arith, q, s))))
    ]

-- at a clause
module _ (r : List ℕ) (long : 7 ≤ length r) where
  pub left_step : left (length r) r ≡ clause_of r ∷ left (length (after r)) (after r)
  unfolding left
  left_step =
      let s = shorter r long in
      left_more (length r) (suc (length r)) r (omega arith) (omega arith)
      ∙ simp (le-ltb (length r) 7 long) (ap (λ cs. clause_of r ∷ cs) (left_more (length r) (length (after r)) (after r) (omega (arith, s)) (omega arith)))

  walks_is : walks (length r) r ≡ leb 7 (size r) && leb (size r) (length r) && walks (length (after r)) (after r)
  unfolding walks
  walks_is =
      let s = shorter r long in
      walks_more (length r) (suc (length r)) r (omega arith) (omega arith)
      ∙ simp (le-ltb (length r) 7 long) (ap (λ b. leb 7 (size r) && leb (size r) (length r) && b) (walks_more (length r) (length (after r)) (after r) (omega (arith, s)) (omega arith)))

  pub walks_step : walks (length r) r ≡ true → (7 ≤ size r) × (size r ≤ length r) × (walks (length (after r)) (after r) ≡ true)
  walks_step e =
      let t = sym walks_is ∙ e in
      let a = leb 7 (size r) in
      let b = leb (size r) (length r) in
      let z = walks (length (after r)) (after r) in
      let f = and_left (a && b) z t in
      (leb-true 7 (size r) (and_left a b f), leb-true (size r) (length r) (and_right a b f), and_right (a && b) z t)

  pub walks_first : 7 ≤ size r → size r ≤ length r → walks (length (after r)) (after r) ≡ true → walks (length r) r ≡ true
  walks_first p q e = walks_is ∙ simp (le-leb 7 (size r) p, le-leb (size r) (length r) q, e)

-- the part behind the field that stands first
module _ (r : List ℕ) (n : ℕ) (is : n ≡ size r) where
  pub behind : take (length r - n) (drop n r) ≡ after r
  behind = part_end r n ∙ ap (λ (k : ℕ). drop k r) is

  pub next_left : 7 ≤ length r → (c : Clause) → c ≡ clause_of r → left (length r) r ≡ c ∷ left (length (take (length r - n) (drop n r))) (take (length r - n) (drop n r))
  next_left long c e = left_step r long ∙ simp (e, behind)

  pub next_walks : 7 ≤ length r → walks (length r) r ≡ true → walks (length (take (length r - n) (drop n r))) (take (length r - n) (drop n r)) ≡ true
  next_walks long e = ap (λ (t : List ℕ). walks (length t) t) behind ∙ (walks_step r long e).2

-- the parts of the field that stands first
module _ (r : List ℕ) (long : 7 ≤ size r) (fits : size r ≤ length r) where
  pub first_groups : words (take 2 (drop 3 r)) ≡ group_of r ∷ []
  first_groups = words_two r 3 (omega (arith, long, fits))

  pub first_body : (n : ℕ) → n ≡ size r → words (take (n - 7) (drop 7 r)) ≡ words (body_part r)
  first_body n e = let cut : n - 7 ≡ len r - 4 = omega (arith, e) in ap (λ (k : ℕ). words (take k (drop 7 r))) cut

  -- ... and so does whatever is the same as these parts
  pub parts_spell : (gs : List ℕ) (h : ℕ) (ws : List ℕ) → gs ≡ take 2 (drop 3 r) → h ≡ head_of r → ws ≡ take (size r - 7) (drop 7 r)
      → clause_from (words gs) h (words ws) ≡ clause_of r
  parts_spell gs h ws a b c =
      ap (λ (s : List ℕ). clause_from (words s) h (words ws)) a
      ∙ ap (λ (s : List ℕ). clause_from s h (words ws)) first_groups
      ∙ ap (λ (n : ℕ). clause_from (group_of r ∷ []) n (words ws)) b
      ∙ ap (λ (s : List ℕ). clause_from (group_of r ∷ []) (head_of r) (words s)) c
      ∙ ap (λ (s : List ℕ). clause_from (group_of r ∷ []) (head_of r) s) (first_body _ refl)
