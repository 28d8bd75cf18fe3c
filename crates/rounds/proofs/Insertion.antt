-- The smallest inconsistent choice within a seed, and the insertion that finds it.
--   First p i y              y is the first number from i on that passes
--   first_from_is             `first_from` finds it
--   smallest_one             two smallest choices are equal
--   smallest_of              some inconsistent choice lies within s: `smallest` is the smallest
--   smallest_found           ... as s itself does, where it is inconsistent
--   smallest_is              the smallest choice is `smallest`
--   stage_start, stage_end   the insertion's first stage, and its last: what is kept is inconsistent
--   stage_le, stage_kept, arrived_inside, arrived_le       what has arrived lies within the seed
--   stage_step, stage_next   the first group whose arrival breaks is kept, and only the groups below it are left
--   stage_done               nothing more is kept where what is kept breaks
--   stage_fits               what is kept next lies within the seed
--   breaks_le                some arrival breaks
--   breaks_group             the group that breaks is one of the seed's
--   breaks_kept, breaks_of   what is known of one level is so of all
-- Assumes nothing.
use mathlib.Core.Path.{◌≡◌, refl, sym, ap, ◌∙◌, subst}
use mathlib.Core.Logic.{◌⊎◌, inl, inr}
use mathlib.Core.Bool.{Bool, true, false, ◌&&◌}
use Prim.Native.Nat.{ℕ, zero, suc, ◌+◌, ◌-◌, ◌*◌, ◌%◌, ◌^◌, ◌≤◌, ◌<◌}
use native.Mathlib.Nat.{mod-lt, mod-eq_of_lt, zero-add}
use native.Mathlib.Omega.{arith}
use native.Mathlib.Decide.{ℕ_discrete}
use borrow.Author.Tests.{eqb-true, eq-eqb, leb-true, le-leb, lt-leb}
use lib.Dec.{leb}
use lib.Bits.{bit_and}
use lib.Pow.{pow_pos, pow_mono, pow-add}
use Rattle.answer.proofs.Tests.{and_left, and_right, and_both, holds_or, clash}
use Rattle.meaning.specs.Choice.{digit, Inside}
use Rattle.meaning.proofs.Choices.{digit_or}
use Rattle.rounds.specs.Records.{inside}
use Rattle.rounds.specs.Rounds.{first_from, smallest, Monotone, Smallest}
use Rattle.rounds.specs.Insertion.{Stage, Breaks}
use Rattle.rounds.proofs.Digits.{inside_le, inside_refl, inside_trans, and_inside, lt_or_ge, inside_low, block_inside, base_inside, mod_inside, mod_more}

-- ---- the first number that passes
abbrev pub First : (ℕ → Bool) → ℕ → ℕ → Type 0
First p i y = (p y ≡ true) × (i ≤ y) × ((a : ℕ) → i ≤ a → a < y → p a ≡ false)

pub first_from_is : (p : ℕ → Bool) (k i m : ℕ) → i ≤ m → m ≤ i + k → p m ≡ true → First p i (first_from p k i)
unfolding first_from
first_from_is p zero i m l h t = (ap p (let e : i ≡ m = omega arith in e) ∙ t, omega arith, λ a u v. absurd (omega arith))
first_from_is p (suc k) i m l h t = go (p i) refl (first_from p k (suc i)) (λ u. first_from_is p k (suc i) m u (omega arith) t)
  where
    go : (b : Bool) → p i ≡ b → (y : ℕ) → (suc i ≤ m → First p (suc i) y) → First p i (elim b as (λ _. ℕ) [ true ↦ i | false ↦ y ])
    go true e y ih = (e, omega arith, λ a u v. absurd (omega arith))
    go false e y ih = (r.0, omega (arith, r.1), λ a u v. pick a u v (ℕ_discrete a i))
      where
        later : Dec (m ≡ i) → suc i ≤ m
        later (yes d) = absurd (clash (p m) t (ap p d ∙ e))
        later (no d) = omega arith

        r : First p (suc i) y
        r = ih (later (ℕ_discrete m i))

        pick : (a : ℕ) → i ≤ a → a < y → Dec (a ≡ i) → p a ≡ false
        pick a u v (yes d) = ap p d ∙ e
        pick a u v (no d) = r.2 a (omega arith) v

-- ---- the smallest inconsistent choice within s
module _ (bad : ℕ → Bool) (s : ℕ) where
  pub smallest_one : (x y : ℕ) → Smallest bad s x → Smallest bad s y → x ≡ y
  smallest_one x y A B = omega (arith, A.lower y B.inside B.broken, B.lower x A.inside A.broken)

  within : (y : ℕ) → Inside y s → bad y ≡ true → (inside y s && bad y) ≡ true
  within y t b = and_both (inside y s) (bad y) (eq-eqb (bit_and y s) y ((and_inside y s).1 t)) b

  pub smallest_of : (y : ℕ) → Inside y s → bad y ≡ true → Smallest bad s (smallest bad s)
  unfolding smallest
  smallest_of y t b =
      let p : ℕ → Bool = λ z. inside z s && bad z in
      let m = first_from p s 0 in
      let f : First p 0 m = first_from_is p s 0 y (omega arith) (omega (arith, inside_le y s t)) (within y t b) in
      record {
        inside = (and_inside m s).0 (eqb-true (bit_and m s) m (and_left (inside m s) (bad m) f.0));
        broken = and_right (inside m s) (bad m) f.0;
        lower = λ z u c. go (λ l. f.2 z (omega arith) l) (within z u c) (lt_or_ge z m);
      }
    where
      go : {m z : ℕ} → (z < m → (inside z s && bad z) ≡ false) → (inside z s && bad z) ≡ true → (z < m) ⊎ (m ≤ z) → m ≤ z
      go {m} {z} f e (inr l) = l
      go {m} {z} f e (inl l) = absurd (clash (inside z s && bad z) e (f l))

  pub smallest_found : bad s ≡ true → Smallest bad s (smallest bad s)
  smallest_found b = smallest_of s (inside_refl s) b

  pub smallest_is : (y : ℕ) → Smallest bad s y → y ≡ smallest bad s
  smallest_is y S = smallest_one y (smallest bad s) S (smallest_of y S.inside S.broken)

-- ---- the stages
pub stage_start : (n : ℕ) (bad : ℕ → Bool) (s : ℕ) → s < 2 ^ n → bad s ≡ true → Stage bad s 0 n
stage_start n bad s h b =
    let e : 0 + s % 2 ^ n ≡ s = zero-add (s % 2 ^ n) ∙ mod-eq_of_lt h in
    record { high = 0; whole = omega arith; enough = rw e b; inside = rw e (inside_refl s); lower = λ z t c. omega arith }

whole_step : (K h P Q R : ℕ) → K ≡ h * R → R ≡ P * Q → K ≡ h * P * Q
whole_step K h P Q R e f = omega (arith, e, ap (λ (z : ℕ). h * z) f)

module _ (bad : ℕ → Bool) (s K k : ℕ) (S : Stage bad s K k) where
  pub stage_le : K + s % 2 ^ k ≤ s
  stage_le = inside_le (K + s % 2 ^ k) s S.inside

  pub stage_kept : K ≤ s
  stage_kept = omega (arith, stage_le)

  pub stage_end : bad K ≡ true → Smallest bad s K
  stage_end b =
      record {
        inside = inside_trans K (K + s % 2 ^ k) s (rw S.whole (base_inside S.high k (s % 2 ^ k) (mod-lt s (pow_pos k)))) S.inside;
        broken = b;
        lower = S.lower;
      }

  -- what arrives stays
  pub arrived_inside : (i j : ℕ) → i ≤ j → j ≤ k → Inside (K + s % 2 ^ i) (K + s % 2 ^ j)
  arrived_inside i j l m =
      rw S.whole (block_inside S.high k (s % 2 ^ i) (s % 2 ^ j) (low i (omega arith)) (low j m) (mod_inside s i j l))
    where
      low : (a : ℕ) → a ≤ k → s % 2 ^ a < 2 ^ k
      low a h = omega (arith, mod-lt s (pow_pos a), pow_mono {i = a} {j = k} h)

  pub arrived_le : (j : ℕ) → j ≤ k → K + s % 2 ^ j ≤ s
  arrived_le j l = omega (arith, inside_le (K + s % 2 ^ j) (K + s % 2 ^ k) (arrived_inside j k l (omega arith)), stage_le)

-- group j + 1 of the seed is the first whose arrival breaks
one_of : (bad : ℕ → Bool) (s K j : ℕ) → bad (K + s % 2 ^ j) ≡ false → bad (K + s % 2 ^ suc j) ≡ true → digit s j ≡ 1
one_of bad s K j f t = go (digit_or s j)
  where
    go : (digit s j ≡ 0) ⊎ (digit s j ≡ 1) → digit s j ≡ 1
    go (inr d) = d
    go (inl d) =
        absurd (clash (bad (K + s % 2 ^ suc j)) t (ap (λ (z : ℕ). bad (K + z)) (mod_more s j ∙ (let e : digit s j * 2 ^ j + s % 2 ^ j ≡ s % 2 ^ j = rw d (omega arith) in e)) ∙ f))

-- ---- by the group that breaks
module _ (bad : ℕ → Bool) (s K k t : ℕ) (B : Breaks bad s K k t) where
  before : 1 ≤ t → t ≤ k → bad (K + s % 2 ^ (t - 1)) ≡ false
  before a b = B (t - 1) (omega arith) ∙ lt-leb t (t - 1) (omega arith)

  after : 1 ≤ t → t ≤ k → bad (K + s % 2 ^ suc (t - 1)) ≡ true
  after a b = B (suc (t - 1)) (omega arith) ∙ le-leb t (suc (t - 1)) (omega arith)

  pub breaks_le : Stage bad s K k → t ≤ k
  breaks_le S = leb-true t k (sym (B k (omega arith)) ∙ S.enough)

  pub breaks_group : 1 ≤ t → t ≤ k → digit s (t - 1) ≡ 1
  breaks_group a b = one_of bad s K (t - 1) (before a b) (after a b)

  pub stage_done : Stage bad s K k → t ≡ 0 → Smallest bad s K
  stage_done S e = stage_end bad s K k S (ap bad (let q : K ≡ K + s % 2 ^ 0 = omega arith in q) ∙ B 0 (omega arith) ∙ le-leb t 0 (omega arith))

-- ---- from a stage to the next
module _ (n : ℕ) (bad : ℕ → Bool) (mono : Monotone n bad) (s : ℕ) (h : s < 2 ^ n) (K k : ℕ) (S : Stage bad s K k) where
  pub stage_step : (j : ℕ) → j < k → bad (K + s % 2 ^ j) ≡ false → bad (K + s % 2 ^ suc j) ≡ true → Stage bad s (K + 2 ^ j) j
  stage_step j l f t =
      record { high = q + 1; whole = omega (arith, w); enough = rw joined t; inside = rw joined part; lower = λ z u c. below z u c (lt_or_ge z (K + 2 ^ j)) }
    where
      q : ℕ
      q = S.high * 2 ^ (k - j)

      w : K ≡ q * 2 ^ j
      w = whole_step K S.high (2 ^ (k - j)) (2 ^ j) (2 ^ k) S.whole (ap (λ (z : ℕ). 2 ^ z) (let e : k ≡ k - j + j = omega arith in e) ∙ pow-add 2 (k - j) j)

      joined : K + 2 ^ j + s % 2 ^ j ≡ K + s % 2 ^ suc j
      joined = rw (mod_more s j, one_of bad s K j f t) (omega arith)

      part : Inside (K + s % 2 ^ suc j) s
      part = inside_trans (K + s % 2 ^ suc j) (K + s % 2 ^ k) s (arrived_inside bad s K k S (suc j) k l (omega arith)) S.inside

      below : (z : ℕ) → Inside z s → bad z ≡ true → (z < K + 2 ^ j) ⊎ (K + 2 ^ j ≤ z) → K + 2 ^ j ≤ z
      below z u c (inr m) = m
      below z u c (inl m) =
          let e : q * 2 ^ j + (z - K) ≡ z = omega (arith, w, S.lower z u c) in
          let v : Inside z (K + s % 2 ^ j) = rw w (subst (λ (y : ℕ). Inside y (q * 2 ^ j + s % 2 ^ j)) e (inside_low q j (z - K) s (omega (arith, pow_pos j)) (subst (λ (y : ℕ). Inside y s) (sym e) u))) in
          absurd (clash (bad (K + s % 2 ^ j)) (mono z (K + s % 2 ^ j) (omega (arith, arrived_le bad s K k S j (omega arith))) v c) f)

  -- of all levels, from the two around the group that breaks
  pub breaks_of : (t : ℕ) → 1 ≤ t → t ≤ k → bad (K + s % 2 ^ (t - 1)) ≡ false → bad (K + s % 2 ^ t) ≡ true → Breaks bad s K k t
  breaks_of t a b f g j l = go (lt_or_ge j t)
    where
      up : (i m : ℕ) → i ≤ m → m ≤ k → bad (K + s % 2 ^ i) ≡ true → bad (K + s % 2 ^ m) ≡ true
      up i m u v e = mono (K + s % 2 ^ i) (K + s % 2 ^ m) (omega (arith, arrived_le bad s K k S m v)) (arrived_inside bad s K k S i m u v) e

      down : (bad (K + s % 2 ^ j) ≡ true) ⊎ (bad (K + s % 2 ^ j) ≡ false) → j < t → bad (K + s % 2 ^ j) ≡ false
      down (inr e) m = e
      down (inl e) m = absurd (clash (bad (K + s % 2 ^ (t - 1))) (up j (t - 1) (omega arith) (omega arith) e) f)

      go : (j < t) ⊎ (t ≤ j) → bad (K + s % 2 ^ j) ≡ leb t j
      go (inl m) = down (holds_or (bad (K + s % 2 ^ j))) m ∙ sym (lt-leb t j m)
      go (inr m) = up t j m l g ∙ sym (le-leb t j m)

  pub breaks_kept : bad K ≡ true → Breaks bad s K k 0
  breaks_kept b j l =
      mono K (K + s % 2 ^ j) (omega (arith, arrived_le bad s K k S j l))
      (subst (λ (z : ℕ). Inside z (K + s % 2 ^ j)) (let e : K + s % 2 ^ 0 ≡ K = omega arith in e) (arrived_inside bad s K k S 0 j (omega arith) l)) b
      ∙ sym (le-leb 0 j (omega arith))

  -- ---- by the group that breaks
  module _ (t : ℕ) (B : Breaks bad s K k t) (a : 1 ≤ t) (b : t ≤ k) where
    pub stage_next : Stage bad s (K + 2 ^ (t - 1)) (t - 1)
    stage_next = stage_step (t - 1) (omega arith) (before bad s K k t B a b) (after bad s K k t B a b)

    pub stage_fits : K + 2 ^ (t - 1) ≤ s
    stage_fits = stage_kept bad s (K + 2 ^ (t - 1)) (t - 1) stage_next
