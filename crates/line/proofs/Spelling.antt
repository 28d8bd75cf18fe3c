-- Laws of the numbers that tokens spell.
--   Reading w n k         a number read, k digits on: n so far, as far as two bytes hold it
--   spelt_nothing         a token of no byte spells no number
--   reading_start, reading_other, reading_next, reading_end      such a reading: its start, at a byte that is no digit, at a digit, at the end
-- Assumes nothing.
use Prim.Native.Nat.{ℕ, suc, ◌+◌, ◌-◌, ◌*◌, ◌≤◌, ◌<◌}
use mathlib.Core.Path.{◌≡◌, refl, sym, ap, ◌∙◌}
use mathlib.Core.List.{List, [], ◌∷◌}
use mathlib.Core.Bool.{true, false, ◌&&◌, cond}
use native.Mathlib.Omega.{arith}
use native.Mathlib.Decide.{dec_lt}
use native.Mathlib.Numerals.{add-one}
use lib.ListN.{length, get_or, drop, drop_of_length-le}
use lib.Seq.{drop-cons}
use borrow.Author.Tests.{lt-ltb, le-ltb}
use Rattle.text.specs.Lines.{is_digit, all_digits, digits, value_from, value}
use Rattle.line.specs.Tokens.{most_spelt, cap, spelt}
use Rattle.std.specs.Prelude.{None, Some}
use Rattle.std.specs.Char.{is_ascii_digit}

value_grows : (w : List ℕ) (n : ℕ) → n ≤ value_from n w
unfolding value_from
value_grows [] n = omega arith
value_grows (a ∷ w) n = omega (arith, value_grows w (10 * n + (a - 48)))

-- digits that follow a number too large add nothing
cap_value : (w : List ℕ) (n : ℕ) → cap (value_from n w) ≡ cap (value_from (cap n) w)
cap_value w n = go (dec_lt most_spelt n)
  where
    go : Dec (most_spelt < n) → cap (value_from n w) ≡ cap (value_from (cap n) w)
    go (yes h) = omega (arith, value_grows w n, value_grows w (cap n))
    go (no h) = let e : cap n ≡ n = omega arith in ap (λ (m : ℕ). cap (value_from m w)) (sym e)

pub spelt_nothing : (w : List ℕ) → length w ≡ 0 → None ≡ spelt w
unfolding spelt digits
spelt_nothing w e = rw (le-ltb 0 (length w) (omega arith))

module _ (w : List ℕ) where
  pub record Reading (n k : ℕ) : Type 0 where
    pub some : 0 < length w
    pub rest : all_digits w ≡ all_digits (drop k w)
    pub number : cap (value w) ≡ cap (value_from n (drop k w))
    pub small : n ≤ most_spelt

  pub reading_start : (length w ≡ 0 → ⊥) → Reading 0 0
  reading_start n = record { some = omega (arith, n); rest = refl; number = refl; small = omega arith }

  module _ (n k : ℕ) (r : Reading n k) where
    spelt_by : spelt w ≡ cond (all_digits w) (Some (cap (value w))) None
    unfolding spelt digits
    spelt_by = rw (lt-ltb 0 (length w) r.some)

    pub reading_end : length w ≤ k → Some n ≡ spelt w
    unfolding all_digits value_from
    reading_end h =
        let z : drop k w ≡ [] = drop_of_length-le w h in
        let a : all_digits w ≡ true = r.rest ∙ rw z in
        let v : cap (value w) ≡ n = r.number ∙ rw z (omega (arith, r.small)) in
        sym (spelt_by ∙ rw (a, v))

    module _ (h : k < length w) where
      heads : all_digits w ≡ (is_digit (get_or w k 0) && all_digits (drop (suc k) w))
      unfolding all_digits
      heads = r.rest ∙ rw (drop-cons w k 0 h)

      pub reading_other : is_ascii_digit (get_or w k 0) ≡ false → None ≡ spelt w
      unfolding is_digit
      reading_other o = sym (spelt_by ∙ rw (heads, o))

      pub reading_next : is_ascii_digit (get_or w k 0) ≡ true → (m : ℕ) → m ≡ cap (10 * n + (get_or w k 0 - 48)) → Reading m (k + 1)
      unfolding value_from is_digit
      reading_next o m e =
          let v : value_from n (drop k w) ≡ value_from (10 * n + (get_or w k 0 - 48)) (drop (k + 1) w) = rw (drop-cons w k 0 h, add-one k) in
          record {
            some = r.some;
            rest = heads ∙ rw (o, add-one k);
            number = r.number ∙ ap cap v ∙ cap_value (drop (k + 1) w) (10 * n + (get_or w k 0 - 48)) ∙ ap (λ (j : ℕ). cap (value_from j (drop (k + 1) w))) (sym e);
            small = omega (arith, e);
          }
