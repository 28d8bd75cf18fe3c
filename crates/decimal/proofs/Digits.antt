-- Numbers in decimal digits.
--   number_low, number_high     a number of one digit, and of more
--   high_room                   its digits above the last are one fewer
--   number_length               a number below 10 ^ k has at most k digits
--   number_power                a number from 10 ^ k on has more than k
--   number_log                  the digits of a number, from the power of 10 at or below it; 0 has one, as 1 has
--   decimal_number              std's digits of a number are these
-- Assumes nothing.
use Prim.Native.Nat.{ℕ, zero, suc, max, ◌+◌, ◌*◌, ◌/◌, ◌%◌, ◌^◌, ◌≤◌, ◌<◌}
use mathlib.Core.Path.{◌≡◌, sym, ap, ◌∙◌}
use mathlib.Core.List.{List, [], ◌∷◌, ◌++◌}
use native.Mathlib.Omega.{arith}
use native.Mathlib.Decide.{dec_lt}
use native.Mathlib.Nat.{one-le-pow}
use lib.ListN.{length, length-append}
use borrow.Author.Tests.{lt-ltb, le-ltb}
use Rattle.std.specs.Fmt.{decimal}
use Rattle.std.proofs.lemmas.Fmt.{decimal_by_steps}
use Rattle.decimal.specs.Digits.{digits_in, number}

digits_low : (f n : ℕ) → n < 10 → digits_in (suc f) n ≡ (48 + n) ∷ []
unfolding digits_in
digits_low f n h = rw (lt-ltb n 10 h)

digits_high : (f n : ℕ) → 10 ≤ n → digits_in (suc f) n ≡ digits_in f (n / 10) ++ ((48 + n % 10) ∷ [])
unfolding digits_in
digits_high f n h = rw (le-ltb n 10 h)

-- more steps than are needed change nothing
digits_enough : (f h n : ℕ) → n < f → n < h → digits_in f n ≡ digits_in h n
digits_enough zero h n p q = absurd (omega arith)
digits_enough (suc f) zero n p q = absurd (omega arith)
digits_enough (suc f) (suc h) n p q = go (dec_lt n 10) (digits_enough f h (n / 10))
  where
    go : Dec (n < 10) → (n / 10 < f → n / 10 < h → digits_in f (n / 10) ≡ digits_in h (n / 10)) → digits_in (suc f) n ≡ digits_in (suc h) n
    go (yes l) ih = digits_low f n l ∙ sym (digits_low h n l)
    go (no k) ih =
        let l : 10 ≤ n = omega arith in
        digits_high f n l ∙ ap (λ (ds : List ℕ). ds ++ ((48 + n % 10) ∷ [])) (ih (omega arith) (omega arith)) ∙ sym (digits_high h n l)

pub number_low : (n : ℕ) → n < 10 → number n ≡ (48 + n) ∷ []
number_low n h = digits_low n n h

pub number_high : (n : ℕ) → 10 ≤ n → number n ≡ number (n / 10) ++ ((48 + n % 10) ∷ [])
number_high n h = digits_high n n h ∙ ap (λ (ds : List ℕ). ds ++ ((48 + n % 10) ∷ [])) (digits_enough n (suc (n / 10)) (n / 10) (omega arith) (omega arith))

pub high_room : (n : ℕ) → 10 ≤ n → length (number n) ≡ length (number (n / 10)) + 1
high_room n h = ap length (number_high n h) ∙ length-append (number (n / 10)) ((48 + n % 10) ∷ [])

pub number_length : (k n : ℕ) → n < 10 ^ suc k → length (number n) ≤ suc k
number_length zero n h = omega (arith, ap length (number_low n (omega (arith, h))))
number_length (suc k) n h = go (dec_lt n 10) (number_length k (n / 10))
  where
    go : Dec (n < 10) → (n / 10 < 10 ^ suc k → length (number (n / 10)) ≤ suc k) → length (number n) ≤ suc (suc k)
    go (yes l) ih = omega (arith, ap length (number_low n l))
    go (no z) ih =
        let l : 10 ≤ n = omega arith in
        let m : n / 10 < 10 ^ suc k = omega (arith, h) in
        omega (arith, ih m, high_room n l)

pub number_power : (k n : ℕ) → 10 ^ k ≤ n → k < length (number n)
number_power zero n h = go (dec_lt n 10)
  where
    go : Dec (n < 10) → 0 < length (number n)
    go (yes l) = omega (arith, ap length (number_low n l))
    go (no z) = omega (arith, high_room n (omega arith))
number_power (suc k) n h =
    let m : 10 ^ k ≤ n / 10 = omega (arith, h) in
    let l : 10 ≤ n = omega (arith, h, one-le-pow k 10 (omega arith)) in
    omega (arith, number_power k (n / 10) m, high_room n l)

pub number_log : (n d : ℕ) → 10 ^ d ≤ max n 1 → max n 1 < 10 * 10 ^ d → d + 1 ≡ length (number n)
number_log n d low high = go (dec_lt n 1)
  where
    go : Dec (n < 1) → d + 1 ≡ length (number n)
    go (yes l) = omega (arith, number_power d 1 (omega (arith, low)), ap length (number_low 1 (omega arith)), ap length (number_low n (omega arith)))
    go (no z) = omega (arith, number_power d n (omega (arith, low)), number_length d n (omega (arith, high)))

pub decimal_number : (n : ℕ) → n < 2 ^ 64 → decimal n ≡ number n
decimal_number = decimal_by_steps (λ (n : ℕ) (ds : List ℕ). ds ≡ number n) (λ n h. sym (number_low n h)) (λ n ds h e. ap (λ (xs : List ℕ). xs ++ ((48 + n % 10) ∷ [])) e ∙ sym (number_high n h))
