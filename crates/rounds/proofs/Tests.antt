-- Explanations and repairs of a test that says of a choice whether it is inconsistent.
--   not_fine                 what is not consistent is inconsistent
--   explanation_bad, repair_bad      an explanation is inconsistent; so is the rest with a group of the repair given back
--   least_all                within an explanation there is no other inconsistent choice
--   needed_all               within a repair there is no other set whose complement is consistent
--   cross                    each explanation shares a group with each repair
--   smallest_explains        the smallest inconsistent choice within a seed is an explanation
-- Assumes nothing.
use mathlib.Core.Path.{◌≡◌}
use mathlib.Core.Logic.{◌⊎◌, inl, inr}
use mathlib.Core.Bool.{Bool, true, false}
use Prim.Native.Nat.{ℕ, ◌+◌, ◌-◌, ◌^◌, ◌<◌}
use native.Mathlib.Omega.{arith}
use lib.Pow.{pow_pos}
use Rattle.answer.proofs.Tests.{holds_or, clash}
use Rattle.meaning.specs.Choice.{digit, Inside, Apart, Meets, complement}
use Rattle.meaning.specs.Explanation.{Explanation, Repair}
use Rattle.rounds.specs.Rounds.{Monotone, Smallest}
use Rattle.rounds.specs.Right.{Fine}
use Rattle.rounds.proofs.Digits.{digit_in, inside_le, inside_trans, pow_le, complement_lt, digit_complement, complement_inside, add_inside, less_inside, inside_less, part_whole, meets_or, apart_inside}

pub not_fine : (bad : ℕ → Bool) (x : ℕ) → (Fine bad x → ⊥) → bad x ≡ true
not_fine bad x f = go (holds_or (bad x))
  where
    go : (bad x ≡ true) ⊎ (bad x ≡ false) → bad x ≡ true
    go (inl e) = e
    go (inr e) = absurd (f e)

module _ (n : ℕ) (bad : ℕ → Bool) where
  pub explanation_bad : (x : ℕ) → Explanation n (Fine bad) x → bad x ≡ true
  explanation_bad x E = not_fine bad x E.broken

  pub repair_bad : (x : ℕ) → Repair n (Fine bad) x → (g : ℕ) → digit x g ≡ 1 → bad (complement n x + 2 ^ g) ≡ true
  repair_bad x R g d = not_fine bad (complement n x + 2 ^ g) (R.needed g d)

  pub smallest_explains : (s y : ℕ) → s < 2 ^ n → Smallest bad s y → Explanation n (Fine bad) y
  smallest_explains s y h S =
      record { within = omega (arith, inside_le y s S.inside); broken = λ e. clash (bad y) S.broken e; least = λ g d. go g d (holds_or (bad (y - 2 ^ g))) }
    where
      go : (g : ℕ) → digit y g ≡ 1 → (bad (y - 2 ^ g) ≡ true) ⊎ (bad (y - 2 ^ g) ≡ false) → bad (y - 2 ^ g) ≡ false
      go g d (inr e) = e
      go g d (inl e) = absurd (omega (arith, S.lower (y - 2 ^ g) (inside_trans (y - 2 ^ g) y s (less_inside y g d) S.inside) e, pow_pos g, pow_le y g d))

  module _ (mono : Monotone n bad) where
    pub least_all : (x y : ℕ) → Explanation n (Fine bad) x → Inside y x → bad y ≡ true → y ≡ x
    least_all x y E s b =
        part_whole y x s (λ g d e. clash (bad (x - 2 ^ g)) (mono y (x - 2 ^ g) (omega (arith, E.within)) (inside_less y x g e s d) b) (E.least g d))

    pub needed_all : (x y : ℕ) → Repair n (Fine bad) x → Inside y x → bad (complement n y) ≡ false → y ≡ x
    needed_all x y R s b = part_whole y x s go
      where
        go : (g : ℕ) → digit x g ≡ 1 → digit y g ≡ 0 → ⊥
        go g d e =
            let h : y < 2 ^ n = omega (arith, inside_le y x s, R.within) in
            let l : g < n = digit_in n x g R.within d in
            let p : digit (complement n x) g ≡ 0 = omega (arith, digit_complement n x g R.within l, d) in
            let q : digit (complement n y) g ≡ 1 = omega (arith, digit_complement n y g h l, e) in
            clash (bad (complement n y))
            (mono (complement n x + 2 ^ g) (complement n y) (complement_lt n y) (add_inside (complement n x) (complement n y) g p (complement_inside n y x h R.within s) q) (repair_bad x R g d)) b

    pub cross : (x y : ℕ) → Explanation n (Fine bad) x → Repair n (Fine bad) y → Meets x y
    cross x y E R = go (meets_or x y)
      where
        go : Apart x y ⊎ Meets x y → Meets x y
        go (inr m) = m
        go (inl a) =
            absurd (clash (bad (complement n y)) (mono x (complement n y) (complement_lt n y) (apart_inside n x y E.within R.within a) (explanation_bad x E)) R.mends)
