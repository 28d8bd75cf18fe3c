-- Laws of choices as numbers.
--   digit_lt, digit_or       a digit is 0 or 1
--   digit_of                 what code computes
--   digit_none, digit_high   no group is in the choice 0, and none above n in a number below 2 ^ n
--   chosen_core, chosen_group      what is chosen: the core, and another group by its digit
--   chosen_more              what is chosen stays so in a larger choice
-- Assumes nothing.
use mathlib.Core.Path.{◌≡◌, refl, sym, ap, ◌∙◌}
use mathlib.Core.Logic.{◌⊎◌, inl, inr}
use mathlib.Core.Bool.{true}
use Prim.Native.Nat.{ℕ, zero, suc, ◌/◌, ◌%◌, ◌^◌, ◌≤◌, ◌<◌}
use native.Mathlib.Nat.{div-div-eq-div-mul, pow-succ'}
use native.Mathlib.Omega.{arith}
use native.Mathlib.Decide.{ℕ_discrete}
use borrow.Author.Tests.{eqb-true, eq-eqb}
use lib.Dec.{eqb}
use Rattle.meaning.specs.Choice.{digit, chosen, Inside}

pub digit_lt : (x g : ℕ) → digit x g < 2
unfolding digit
digit_lt x zero = omega arith
digit_lt x (suc g) = digit_lt (x / 2) g

pub digit_or : (x g : ℕ) → (digit x g ≡ 0) ⊎ (digit x g ≡ 1)
digit_or x g = go (ℕ_discrete (digit x g) 0)
  where
    go : Dec (digit x g ≡ 0) → (digit x g ≡ 0) ⊎ (digit x g ≡ 1)
    go (yes e) = inl e
    go (no o) = inr (omega (arith, digit_lt x g))

pub digit_of : (x g : ℕ) → digit x g ≡ x / 2 ^ g % 2
unfolding digit
digit_of x zero = omega arith
digit_of x (suc g) = digit_of (x / 2) g ∙ ap (λ (y : ℕ). y % 2) (div-div-eq-div-mul x 2 (2 ^ g) ∙ ap (λ (y : ℕ). x / y) (sym (pow-succ' 2 g)))

pub digit_none : (g : ℕ) → digit 0 g ≡ 0
unfolding digit
digit_none zero = refl
digit_none (suc g) = digit_none g

pub digit_high : (n x g : ℕ) → x < 2 ^ n → n ≤ g → digit x g ≡ 0
unfolding digit
digit_high zero x g h k = rw (let e : x ≡ 0 = omega arith in e) (digit_none g)
digit_high (suc n) x zero h k = omega arith
digit_high (suc n) x (suc g) h k = digit_high n (x / 2) g (omega arith) (omega arith)

pub chosen_core : (x : ℕ) → chosen x 0 ≡ true
unfolding chosen
chosen_core x = refl

pub chosen_group : (x g : ℕ) → chosen x (suc g) ≡ eqb (digit x g) 1
unfolding chosen
chosen_group x g = refl

pub chosen_more : (x y : ℕ) → Inside x y → (g : ℕ) → chosen x g ≡ true → chosen y g ≡ true
unfolding chosen
chosen_more x y s zero e = refl
chosen_more x y s (suc g) e = eq-eqb (digit y g) 1 (omega (arith, eqb-true (digit x g) 1 e, s g, digit_lt y g))
