-- The digits of a number, and the tokens made with them.
--   number_digits, number_value      they are digits, and they spell it
--   number_word, minus_word          they are a word, also after a minus
--   digits_plain                     digits begin with no minus
--   minus_literal, minus_is          a minus and the digits of a number above 0 are a literal, that number's
--   plain_literal, plain_is          so are the digits alone
--   zero_literal, zero_zero          the digit of 0 is no literal, and is 0
--   group_word, group_is             a group in braces is a word, and is a group
--   group_inner                      what is between its braces
-- Assumes nothing.
use Prim.Native.Nat.{ℕ, suc, ◌+◌, ◌-◌, ◌*◌, ◌/◌, ◌%◌, ◌≤◌, ◌<◌}
use mathlib.Core.Path.{◌≡◌, refl}
use mathlib.Core.List.{List, [], ◌∷◌, ◌++◌}
use mathlib.Core.Bool.{true, false, ◌&&◌}
use native.Mathlib.Omega.{arith}
use lib.IntN.{pos}
use lib.ListN.{length, length-append}
use lib.Seq.{take_at, get_or_at}
use lib.Dec.{ltb, leb}
use borrow.Author.Tests.{lt-ltb, le-leb, leb-true, ne_eqb}
use Rattle.answer.proofs.Tests.{and_left, and_right}
use Rattle.decimal.specs.Digits.{number}
use Rattle.decimal.proofs.Values.{number_by}
use Rattle.plain.specs.Plain.{minus}
use Rattle.text.specs.Lines.{minus_sign, open_brace, close_brace, is_digit, all_digits, digits, value_from, value, is_minus, is_literal, literal_of, is_zero, inner, is_group}
use Rattle.text.specs.Writing.{group_text}
use Rattle.text.proofs.Pieces.{Dark, dark_append, Word}

-- the first of some digits, and the others
cons_digits : (a : ℕ) (w : List ℕ) → 48 ≤ a → a ≤ 57 → all_digits w ≡ true → all_digits (a ∷ w) ≡ true
unfolding all_digits is_digit
cons_digits a w l h k = simp (le-leb 48 a l, le-leb a 57 h, k)

digits_cons : (a : ℕ) (w : List ℕ) → all_digits (a ∷ w) ≡ true → (48 ≤ a) × (a ≤ 57) × (all_digits w ≡ true)
unfolding all_digits is_digit
digits_cons a w h =
    let d = and_left (leb 48 a && leb a 57) (all_digits w) h in
    (leb-true 48 a (and_left (leb 48 a) (leb a 57) d), leb-true a 57 (and_right (leb 48 a) (leb a 57) d), and_right (leb 48 a && leb a 57) (all_digits w) h)

digits_append : (u w : List ℕ) → all_digits u ≡ true → all_digits w ≡ true → all_digits (u ++ w) ≡ true
digits_append [] w h k = k
digits_append (a ∷ u) w h k = let d = digits_cons a u h in cons_digits a (u ++ w) d.0 d.1 (digits_append u w d.2 k)

value_last : (m : ℕ) (u : List ℕ) (a : ℕ) → value_from m (u ++ (a ∷ [])) ≡ 10 * value_from m u + (a - 48)
unfolding value_from
value_last m [] a = refl
value_last m (b ∷ u) a = value_last (10 * m + (b - 48)) u a

-- what digits are
record Spelt (n : ℕ) (w : List ℕ) : Type 0 where
  some : 0 < length w
  all : all_digits w ≡ true
  is : value w ≡ n

spelt_one : (n : ℕ) → n < 10 → Spelt n ((48 + n) ∷ [])
unfolding all_digits value_from
spelt_one n h = record { some = omega arith; all = cons_digits (48 + n) [] (omega arith) (omega arith) refl; is = omega arith }

spelt_more : (n : ℕ) (w : List ℕ) → 10 ≤ n → Spelt (n / 10) w → Spelt n (w ++ ((48 + n % 10) ∷ []))
unfolding all_digits
spelt_more n w l h =
    record {
      some = omega (arith, length-append w ((48 + n % 10) ∷ []));
      all = digits_append w ((48 + n % 10) ∷ []) h.all (cons_digits (48 + n % 10) [] (omega arith) (omega arith) refl);
      is = omega (arith, value_last 0 w (48 + n % 10), h.is);
    }

spelt : (n : ℕ) → Spelt n (number n)
spelt n = number_by Spelt spelt_one spelt_more n

pub number_digits : (n : ℕ) → digits (number n) ≡ true
unfolding digits
number_digits n = simp (lt-ltb 0 (length (number n)) (spelt n).some, (spelt n).all)

pub number_value : (n : ℕ) → value (number n) ≡ n
number_value n = (spelt n).is

-- digits are dark, and none is a minus
digits_dark : (w : List ℕ) → all_digits w ≡ true → Dark w
digits_dark [] h = tt
digits_dark (a ∷ w) h = let d = digits_cons a w h in (omega (arith, d.0), digits_dark w d.2)

pub number_word : (n : ℕ) → Word (number n)
number_word n = record { some = (spelt n).some; dark = digits_dark (number n) (spelt n).all }

pub minus_word : (n : ℕ) → Word (minus_sign ∷ number n)
minus_word n = record { some = omega arith; dark = (omega arith, (number_word n).dark) }

pub digits_plain : (w : List ℕ) → digits w ≡ true → is_minus w ≡ false
unfolding digits is_minus
digits_plain [] h = refl
digits_plain (a ∷ w) h =
    let d = digits_cons a w (and_right (ltb 0 (length (a ∷ w))) (all_digits (a ∷ w)) h) in
    simp (ne_eqb a minus_sign (λ e. omega (arith, d.0)))

module _ (n : ℕ) (above : 0 < n) where
  positive : (digits (number n) && ltb 0 (value (number n))) ≡ true
  positive = simp (number_digits n, number_value n, lt-ltb 0 n above)

  minus_minus : is_minus (minus_sign ∷ number n) ≡ true
  unfolding is_minus
  minus_minus = positive

  pub minus_literal : is_literal (minus_sign ∷ number n) ≡ true
  unfolding is_literal
  minus_literal = simp minus_minus

  pub minus_is : literal_of (minus_sign ∷ number n) ≡ minus n
  unfolding literal_of
  minus_is = simp (minus_minus, number_value n)

  pub plain_literal : is_literal (number n) ≡ true
  unfolding is_literal
  plain_literal = simp (digits_plain (number n) (number_digits n), positive)

  pub plain_is : literal_of (number n) ≡ pos n
  unfolding literal_of
  plain_is = simp (digits_plain (number n) (number_digits n), number_value n)

pub zero_literal : is_literal (number 0) ≡ false
unfolding is_literal
zero_literal = simp (digits_plain (number 0) (number_digits 0), number_digits 0, number_value 0)

pub zero_zero : is_zero (number 0) ≡ true
unfolding is_zero
zero_zero = simp (number_digits 0, number_value 0)

module _ (g : ℕ) where
  pub group_word : Word (group_text g)
  unfolding group_text
  group_word = record { some = omega arith; dark = (omega arith, dark_append (number g) (close_brace ∷ []) (number_word g).dark (omega arith, tt)) }

  braced : length (number g ++ (close_brace ∷ [])) ≡ suc (length (number g))
  braced = omega (arith, length-append (number g) (close_brace ∷ []))

  pub group_inner : inner (group_text g) ≡ number g
  unfolding group_text
  group_inner = take_at (number g) (close_brace ∷ []) (length (open_brace ∷ (number g ++ (close_brace ∷ []))) - 2) (omega (arith, braced))

  pub group_is : is_group (group_text g) ≡ true
  unfolding is_group group_text
  group_is =
      let e : length (open_brace ∷ number g) ≡ length (open_brace ∷ (number g ++ (close_brace ∷ []))) - 1 = omega (arith, braced) in
      simp (get_or_at (open_brace ∷ number g) close_brace [] 0 _ e, group_inner, number_digits g)
