-- Sets as text.
--   left                        the groups of a set from one on, as text
--   left_all, left_more, left_room, left_none      all of them; that one, if it is in the set, and the others; how long; none behind the highest
--   groups_length               the groups of a set below 2 ^ k, as text, are at most 3 bytes each
-- Assumes nothing.
use Prim.Native.Nat.{ℕ, zero, suc, ◌+◌, ◌-◌, ◌*◌, ◌/◌, ◌%◌, ◌^◌, ◌≤◌, ◌<◌}
use mathlib.Core.Path.{◌≡◌, refl, sym, ap, ◌∙◌}
use mathlib.Core.List.{List, [], ◌∷◌, ◌++◌}
use mathlib.Core.Bool.{Bool, true, false, cond}
use native.Mathlib.Omega.{arith}
use native.Mathlib.Nat.{div-div-eq-div-mul, div-eq_of_lt}
use native.Mathlib.Numerals.{add-one}
use lib.Count.{count_leading_zeros, leading_length}
use lib.Dec.{eqb}
use lib.ListN.{length, length-append}
use Rattle.decimal.specs.Digits.{after}
use Rattle.decimal.proofs.Digits.{number_length}
use Rattle.meaning.proofs.Choices.{digit_of}
use Rattle.report.specs.Text.{numbers, groups_in, groups_of, member}

pub groups_none : (f g : ℕ) → groups_in f g 0 ≡ []
unfolding groups_in
groups_none zero g = refl
groups_none (suc f) g = groups_none f (g + 1)

groups_enough : (f h g x : ℕ) → x ≤ f → x ≤ h → groups_in f g x ≡ groups_in h g x
unfolding groups_in
groups_enough zero h g x p q = let e : x ≡ 0 = omega arith in simp e (sym (groups_none h g))
groups_enough (suc f) zero g x p q = let e : x ≡ 0 = omega arith in simp e (groups_none (suc f) g)
groups_enough (suc f) (suc h) g x p q = ap (λ (r : List ℕ). cond (eqb (x % 2) 1) (g ∷ []) [] ++ r) (groups_enough f h (g + 1) (x / 2) (omega arith) (omega arith))

numbers_turn : (f g x : ℕ) → numbers (groups_in (suc f) g x) ≡ cond (eqb (x % 2) 1) (after g) [] ++ numbers (groups_in f (g + 1) (x / 2))
unfolding groups_in numbers
numbers_turn f g x = go (eqb (x % 2) 1)
  where
    go : (b : Bool) → numbers (cond b (g ∷ []) [] ++ groups_in f (g + 1) (x / 2)) ≡ cond b (after g) [] ++ numbers (groups_in f (g + 1) (x / 2))
    go true = refl
    go false = refl

pub groups_more : (g x : ℕ) → numbers (groups_in x g x) ≡ cond (eqb (x % 2) 1) (after g) [] ++ numbers (groups_in (x / 2) (g + 1) (x / 2))
unfolding numbers groups_in
groups_more g zero = refl
groups_more g (suc y) =
    numbers_turn y g (suc y) ∙ ap (λ (r : List ℕ). cond (eqb (suc y % 2) 1) (after g) [] ++ numbers r) (groups_enough y (suc y / 2) (g + 1) (suc y / 2) (omega arith) (omega arith))

-- the groups of a set from group k + 1 on
module _ (x : ℕ) where
  pub left : ℕ → List ℕ
  left k = numbers (groups_in (x / 2 ^ k) (k + 1) (x / 2 ^ k))

  pub left_all : left 0 ≡ numbers (groups_of x)
  unfolding left
  left_all = let e : x / 2 ^ 0 ≡ x = omega arith in rw e refl

  pub left_more : (k : ℕ) → left k ≡ member x k ++ left (k + 1)
  unfolding left
  left_more k =
      let p : 2 ^ suc k ≡ 2 ^ k * 2 = omega arith in
      let e : x / 2 ^ k / 2 ≡ x / 2 ^ (k + 1) = div-div-eq-div-mul x (2 ^ k) 2 ∙ ap (λ (y : ℕ). x / y) (sym p) ∙ ap (λ (j : ℕ). x / 2 ^ j) (sym (add-one k)) in
      groups_more (k + 1) (x / 2 ^ k) ∙ rw (digit_of x k, e) refl

  pub left_room : (k : ℕ) → length (left k) ≡ length (member x k) + length (left (k + 1))
  left_room k = ap length (left_more k) ∙ length-append (member x k) (left (k + 1))

  pub left_none : x < 2 ^ 32 → left (32 - count_leading_zeros 32 x) ≡ []
  unfolding left numbers
  left_none h =
      let t = leading_length 32 x h in
      let n : 32 - count_leading_zeros 32 x ≡ t.0 = omega (arith, t.1) in
      let e : x / 2 ^ t.0 ≡ 0 = div-eq_of_lt t.2 in
      rw (n, e, groups_none 0 (t.0 + 1)) refl

pub groups_length : (f k g x : ℕ) → x < 2 ^ k → g + k ≤ 100 → length (numbers (groups_in f g x)) ≤ 3 * k
unfolding numbers groups_in
groups_length f zero g x h l = let e : x ≡ 0 = omega arith in simp (e, groups_none f g) (omega arith)
groups_length zero (suc k) g x h l = omega arith
groups_length (suc f) (suc k) g x h l =
    omega (
      arith,
      ap length (numbers_turn f g x),
      length-append (cond (eqb (x % 2) 1) (after g) []) (numbers (groups_in f (g + 1) (x / 2))),
      few (eqb (x % 2) 1),
      groups_length f k (g + 1) (x / 2) (omega (arith, h)) (omega arith),
    )
  where
    few : (b : Bool) → length (cond b (after g) []) ≤ 3
    few true = omega (arith, number_length 1 g (omega arith))
    few false = omega arith
