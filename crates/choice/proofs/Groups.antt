-- Laws of choices in code.
--   has_is           the test by a shift is the digit
--   highest_top      the highest group, from the power of 2 at or below a number
--   above_is         the groups above one, by division
-- Assumes nothing.
use Prim.Native.Nat.{ℕ, suc, ◌*◌, ◌/◌, ◌%◌, ◌^◌, ◌≤◌, ◌<◌}
use mathlib.Core.Path.{◌≡◌, sym, ap, ◌∙◌}
use mathlib.Core.Logic.{◌⊎◌, inl, inr}
use native.Mathlib.Omega.{arith}
use native.Mathlib.Nat.{div-div-eq-div-mul, mul_assoc, mul_comm, mod-lt, mod-eq_of_lt}
use lib.Dec.{eqb}
use lib.Pow.{pow_pos}
use Rattle.meaning.specs.Choice.{digit}
use Rattle.meaning.proofs.Choices.{digit_of, digit_or, digit_high}
use Rattle.rounds.proofs.Digits.{digit_in, mod_more}
use Rattle.choice.specs.Groups.{Highest}

pub has_is : (x g : ℕ) → eqb (x / 2 ^ g % 2) 1 ≡ eqb (digit x g) 1
has_is x g = ap (λ (d : ℕ). eqb d 1) (sym (digit_of x g))

pub highest_top : (x n j : ℕ) → x < 2 ^ n → 2 ^ j ≤ x → x < 2 * 2 ^ j → (j < n) × Highest x j
highest_top x n j h l b =
    let u : x < 2 ^ suc j = omega (arith, b) in
    let d : digit x j ≡ 1 = in_it u (digit_or x j) in
    (digit_in n x j h d, record { in_it = d; none_above = λ k p. digit_high (suc j) x k u (omega arith) })
  where
    in_it : x < 2 ^ suc j → (digit x j ≡ 0) ⊎ (digit x j ≡ 1) → digit x j ≡ 1
    in_it u (inr d) = d
    in_it u (inl d) = absurd (omega (arith, mod_more x j, ap (λ (y : ℕ). y * 2 ^ j) d, mod-eq_of_lt u, mod-lt x (pow_pos j)))

pub above_is : (x g b : ℕ) → b ≡ 2 ^ g → x / b / 2 * 2 * b ≡ x / 2 ^ suc g * 2 ^ suc g
above_is x g b e =
    let p : 2 ^ suc g ≡ b * 2 = omega (arith, e) in
    rw p (ap (λ (y : ℕ). y * 2 * b) (div-div-eq-div-mul x b 2) ∙ mul_assoc (x / (b * 2)) 2 b ∙ ap (λ (y : ℕ). x / (b * 2) * y) (mul_comm 2 b))
