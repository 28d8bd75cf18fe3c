-- Levels after a pass, for the next one.
--   level_above, level_aside, level_below, level_own      one level carried on, by the group at which the pass ended
--   carry_next, carry_all    the first i levels carried on: one more, all of them
--   length_carried           how many levels there are stays
--   settled_settling         settled levels are not too low
--   settling_carried         levels that are not too low are so after the pass too, for what is kept and left then
-- Assumes nothing.
use Prim.Native.Nat.{ℕ, zero, suc, ◌+◌, ◌-◌, ◌*◌, ◌%◌, ◌^◌, ◌≤◌, ◌<◌, min, max}
use mathlib.Core.Path.{◌≡◌, refl, sym, ap, ◌∙◌, subst}
use mathlib.Core.Logic.{◌⊎◌, inl, inr}
use mathlib.Core.List.{List, [], ◌∷◌, ◌++◌, append-nil}
use mathlib.Core.Bool.{Bool, true, false, cond}
use native.Mathlib.Nat.{mod-lt, mod-eq_of_lt}
use native.Mathlib.Omega.{arith}
use native.Mathlib.Numerals.{add-one}
use lib.ListN.{length, get_or, take, drop, set}
use lib.Seq.{take-length, drop-length}
use lib.Dec.{leb}
use lib.Pow.{pow_pos, pow_mono}
use borrow.Author.Tests.{le-leb, lt-leb}
use Rattle.meaning.specs.Book.{Book}
use Rattle.meaning.specs.Choice.{digit, Apart, Inside}
use Rattle.meaning.specs.Marks.{Partly}
use Rattle.meaning.proofs.Choices.{digit_high}
use Rattle.meaning.proofs.Marks.{Heads}
use Rattle.meaning.proofs.Forced.{partly_more, forced_partly}
use Rattle.rounds.proofs.Digits.{lt_or_ge, inside_add, mod_more, low_again, digit_sum}
use Rattle.book.specs.Bytes.{most_groups}
use Rattle.levels.specs.Levels.{never, up_to, carried_to, carried, marks_at, Settling, Settled}
use Rattle.levels.proofs.Thresholds.{apart_up_to}

-- ---- one level
module _ (g l : ℕ) where
  by_test : (b : Bool) → leb l g ≡ b → carried_to g l ≡ cond b (min l (g - 1)) (max never l)
  by_test b e = ap (λ (b : Bool). cond b (min l (g - 1)) (max never l)) e

  pub level_above : g < l → l ≤ never → never ≡ carried_to g l
  level_above h k = let e : max never l ≡ never = omega arith in sym (by_test false (lt-leb l g h) ∙ e)

  pub level_aside : g < l → never < l → l ≡ carried_to g l
  level_aside h k = let e : max never l ≡ l = omega arith in sym (by_test false (lt-leb l g h) ∙ e)

  pub level_below : l < g → l ≡ carried_to g l
  level_below h = let e : min l (g - 1) ≡ l = omega arith in sym (by_test true (le-leb l g (omega arith)) ∙ e)

  pub level_own : g ≤ l → l ≤ g → g - 1 ≡ carried_to g l
  level_own h k = let e : min l (g - 1) ≡ g - 1 = omega arith in sym (by_test true (le-leb l g k) ∙ e)

-- ---- all levels
pub length_carried : (g : ℕ) (f : List ℕ) → length (carried g f) ≡ length f
unfolding carried
length_carried g [] = refl
length_carried g (l ∷ f) = ap suc (length_carried g f)

carry_suc : (g i : ℕ) (f : List ℕ) → i < length f → set (take i (carried g f) ++ drop i f) i (carried_to g (get_or (take i (carried g f) ++ drop i f) i 0)) ≡ take (suc i) (carried g f) ++ drop (suc i) f
unfolding carried
carry_suc g i [] h = absurd (omega arith)
carry_suc g zero (l ∷ f) h = refl
carry_suc g (suc i) (l ∷ f) h = ap (λ (z : List ℕ). carried_to g l ∷ z) (carry_suc g i f (omega arith))

pub carry_next : (g i : ℕ) (f w : List ℕ) (y : ℕ) → i < length f → w ≡ take i (carried g f) ++ drop i f → y ≡ carried_to g (get_or w i 0)
    → set w i y ≡ take (i + 1) (carried g f) ++ drop (i + 1) f
carry_next g i f w y h e q =
    ap (set w i) q ∙ ap (λ (z : List ℕ). set z i (carried_to g (get_or z i 0))) e ∙ carry_suc g i f h ∙ ap (λ (k : ℕ). take k (carried g f) ++ drop k f) (sym (add-one i))

pub carry_all : (g i : ℕ) (f : List ℕ) → i ≡ length f → take i (carried g f) ++ drop i f ≡ carried g f
carry_all g i f e =
    ap (λ (k : ℕ). take k (carried g f) ++ drop k f) e ∙ ap (λ (z : List ℕ). take (length f) (carried g f) ++ z) (drop-length f) ∙ append-nil (take (length f) (carried g f))
    ∙ ap (λ (k : ℕ). take k (carried g f)) (sym (length_carried g f)) ∙ take-length (carried g f)

-- ---- at a threshold
same_test : (a b t u : ℕ) → (a ≤ t → b ≤ u) → (b ≤ u → a ≤ t) → leb a t ≡ leb b u
same_test a b t u there back = go (lt_or_ge t a)
  where
    go : (t < a) ⊎ (a ≤ t) → leb a t ≡ leb b u
    go (inr l) = le-leb a t l ∙ sym (le-leb b u (there l))
    go (inl l) = lt-leb a t l ∙ sym (lt-leb b u (high (lt_or_ge u b)))
      where
        high : (u < b) ⊎ (b ≤ u) → u < b
        high (inl k) = k
        high (inr k) = absurd (omega (arith, l, back k))

module _ (g t : ℕ) (some : 1 ≤ g) (h : t ≤ most_groups) where
  -- below the group: what was so low stays so
  level_low : (l : ℕ) → t < g - 1 → leb (carried_to g l) t ≡ leb l t
  level_low l k = go (lt_or_ge g l)
    where
      go : (g < l) ⊎ (l ≤ g) → leb (carried_to g l) t ≡ leb l t
      go (inl m) = ap (λ (z : ℕ). leb z t) (by_test g l false (lt-leb l g m)) ∙ lt-leb (max never l) t (omega arith) ∙ sym (lt-leb l t (omega arith))
      go (inr m) = ap (λ (z : ℕ). leb z t) (by_test g l true (le-leb l g m)) ∙ same_test (min l (g - 1)) l t t (λ q. omega arith) (λ q. omega arith)

  -- from there on: what came up to the group
  level_high : (l : ℕ) → g - 1 ≤ t → leb (carried_to g l) t ≡ leb l g
  level_high l k = go (lt_or_ge g l)
    where
      go : (g < l) ⊎ (l ≤ g) → leb (carried_to g l) t ≡ leb l g
      go (inl m) = ap (λ (z : ℕ). leb z t) (by_test g l false (lt-leb l g m)) ∙ lt-leb (max never l) t (omega arith) ∙ sym (lt-leb l g m)
      go (inr m) = ap (λ (z : ℕ). leb z t) (by_test g l true (le-leb l g m)) ∙ le-leb (min l (g - 1)) t (omega arith) ∙ sym (le-leb l g m)

  marks_low : t < g - 1 → (f : List ℕ) → marks_at t (carried g f) ≡ marks_at t f
  unfolding marks_at carried
  marks_low k [] = refl
  marks_low k (l ∷ f) = ap (λ (b : Bool). cond b 1 0 ∷ marks_at t (carried g f)) (level_low l k) ∙ ap (λ (z : List ℕ). cond (leb l t) 1 0 ∷ z) (marks_low k f)

  marks_high : g - 1 ≤ t → (f : List ℕ) → marks_at t (carried g f) ≡ marks_at g f
  unfolding marks_at carried
  marks_high k [] = refl
  marks_high k (l ∷ f) = ap (λ (b : Bool). cond b 1 0 ∷ marks_at t (carried g f)) (level_high l k) ∙ ap (λ (z : List ℕ). cond (leb l g) 1 0 ∷ z) (marks_high k f)

-- ---- levels that are not too low
pub settled_settling : (b : Book) (kept pool : ℕ) (f : List ℕ) → Heads b.variables b.clauses → Settled b kept pool f → Settling b kept pool f
settled_settling b kept pool f H S t h = subst (Partly b (up_to kept pool t)) (sym (S t h)) (forced_partly b (up_to kept pool t) H)

pub settling_carried : (b : Book) (kept pool g w : ℕ) (f : List ℕ) → Apart kept pool → 1 ≤ g → g ≤ most_groups → digit pool (g - 1) ≡ 1 → w ≡ 2 ^ (g - 1) → Settling b kept pool f
    → Settling b (kept + w) (pool % w) (carried g f)
settling_carried b kept pool g w f A some few d is S t h = go (lt_or_ge t (g - 1))
  where
    low : t < g - 1 → Inside (up_to kept pool t) (up_to (kept + w) (pool % w) t)
    low k =
        let z : digit (up_to kept pool t) (g - 1) ≡ 0 =
        digit_sum kept (pool % 2 ^ t) (g - 1) (apart_up_to kept pool A t h)
        ∙ omega (arith, A (g - 1), d, digit_high t (pool % 2 ^ t) (g - 1) (mod-lt pool (pow_pos t)) (omega arith)) in
        let e : up_to kept pool t + 2 ^ (g - 1) ≡ up_to (kept + w) (pool % w) t =
        omega (arith, is, ap (λ (p : ℕ). pool % p % 2 ^ t) is, low_again pool t (g - 1) (omega arith)) in
        subst (Inside (up_to kept pool t)) e (inside_add (up_to kept pool t) (g - 1) z)

    high : g - 1 ≤ t → up_to kept pool g ≡ up_to (kept + w) (pool % w) t
    high k =
        let a : pool % 2 ^ g ≡ 2 ^ (g - 1) + pool % 2 ^ (g - 1) =
        ap (λ (e : ℕ). pool % 2 ^ e) (let q : g ≡ suc (g - 1) = omega arith in q) ∙ mod_more pool (g - 1) ∙ ap (λ (e : ℕ). e * 2 ^ (g - 1) + pool % 2 ^ (g - 1)) d ∙ omega arith in
        let c : pool % w % 2 ^ t ≡ pool % 2 ^ (g - 1) =
        ap (λ (p : ℕ). pool % p % 2 ^ t) is ∙ mod-eq_of_lt (omega (arith, mod-lt pool (pow_pos (g - 1)), pow_mono {i = g - 1} {j = t} k)) in
        omega (arith, a, c, is)

    go : (t < g - 1) ⊎ (g - 1 ≤ t) → Partly b (up_to (kept + w) (pool % w) t) (marks_at t (carried g f))
    go (inl k) = subst (Partly b (up_to (kept + w) (pool % w) t)) (sym (marks_low g t some h k f)) (partly_more b (up_to kept pool t) (up_to (kept + w) (pool % w) t) (marks_at t f) (low k) (S t h))
    go (inr k) =
        subst (Partly b (up_to (kept + w) (pool % w) t)) (sym (marks_high g t some h k f))
        (subst (λ (x : ℕ). Partly b x (marks_at g f)) (high k) (S g few))
