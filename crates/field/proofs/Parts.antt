-- Parts of a list.
--   part_end        a part that runs to the end
--   part_shorter    is shorter, if it starts past the first element
--   part_length     a part within the list has the length that it was cut to
--   drop_three      past a field's first three bytes
-- Assumes nothing.
use Prim.Native.Nat.{ℕ, suc, ◌+◌, ◌-◌, ◌≤◌, ◌<◌}
use mathlib.Core.Path.{◌≡◌, ap}
use mathlib.Core.List.{List, ◌∷◌}
use native.Mathlib.Omega.{arith}
use lib.ListN.{length, take, drop, length-drop}
use lib.Seq.{take_all, length-take-le}

module _ {A : Type 0} where
  pub part_end : (t : List A) (a : ℕ) → take (length t - a) (drop a t) ≡ drop a t
  part_end t a = take_all (length t - a) (drop a t) (omega (arith, length-drop a t))

  pub part_shorter : (t : List A) (a : ℕ) → 0 < a → a ≤ length t → length (take (length t - a) (drop a t)) < length t
  part_shorter t a h l = simp (part_end, length-drop) (omega arith)

  pub part_length : (t : List A) (a n : ℕ) → a + n ≤ length t → length (take n (drop a t)) ≡ n
  part_length t a n h = length-take-le n (drop a t) (omega (arith, length-drop a t))

  pub drop_three : (n : ℕ) (a b c : A) (x : List A) → drop (3 + n) (a ∷ (b ∷ (c ∷ x))) ≡ drop n x
  drop_three n a b c x = let e : 3 + n ≡ suc (suc (suc n)) = omega arith in ap (λ (k : ℕ). drop k (a ∷ (b ∷ (c ∷ x)))) e
