-- How a number's digits are told one by one; a line and what follows it.
--   number_by        what holds of the digits of a number below 10, and with those of n / 10 of those of n, holds of the digits of every number
--   line_append      a line and what follows it: the line feed stands between
-- Assumes nothing.
use Prim.Native.Nat.{ℕ, zero, suc, ◌+◌, ◌/◌, ◌%◌, ◌≤◌, ◌<◌}
use mathlib.Core.Path.{◌≡◌, refl}
use mathlib.Core.List.{List, [], ◌∷◌, ◌++◌, append_assoc}
use mathlib.Core.Bool.{Bool, true, false, cond}
use native.Mathlib.Omega.{arith}
use lib.Dec.{ltb}
use borrow.Author.Tests.{ltb-true, ltb-false}
use Rattle.decimal.specs.Digits.{digits_in, number, line}

module _
    (P : ℕ → List ℕ → Type 0)
    (one : (n : ℕ) → n < 10 → P n ((48 + n) ∷ []))
    (more : (n : ℕ) (w : List ℕ) → 10 ≤ n → P (n / 10) w → P n (w ++ ((48 + n % 10) ∷ [])))
  where
    digits_by : (f n : ℕ) → n < f → P n (digits_in f n)
    unfolding digits_in
    digits_by zero n h = absurd (omega arith)
    digits_by (suc f) n h = go (ltb n 10) refl (digits_by f (n / 10))
      where
        go : (b : Bool) → ltb n 10 ≡ b → (n / 10 < f → P (n / 10) (digits_in f (n / 10))) → P n (cond b ((48 + n) ∷ []) (digits_in f (n / 10) ++ ((48 + n % 10) ∷ [])))
        go true e again = one n (ltb-true n 10 e)
        go false e again = let l = ltb-false n 10 e in more n (digits_in f (n / 10)) l (again (omega arith))

    pub number_by : (n : ℕ) → P n (number n)
    number_by n = digits_by (suc n) n (omega arith)

pub line_append : (word rest r : List ℕ) → line word rest ++ r ≡ (word ++ rest) ++ (10 ∷ r)
unfolding line
line_append word rest r = simp append_assoc
