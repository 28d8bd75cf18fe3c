-- One group more, numbered last: `old` judges the choices of n groups, `new` those of one more, and without the new group they agree.
--   explanations_stay        the explanations without the new group are exactly the old ones
--   repairs_stay             an old repair stands as it was or with the new group added
--   repairs_one              never both
--   repairs_came             each repair with the new group is an old one plus it
-- Assumes nothing.
use mathlib.Core.Path.{◌≡◌, sym, ap, ◌∙◌}
use mathlib.Core.Logic.{◌↔◌, ◌⊎◌, inl, inr}
use mathlib.Core.Bool.{Bool, true, false}
use Prim.Native.Nat.{ℕ, suc, ◌+◌, ◌-◌, ◌^◌, ◌≤◌, ◌<◌}
use native.Mathlib.Omega.{arith}
use native.Mathlib.Decide.{ℕ_discrete}
use Rattle.answer.proofs.Tests.{holds_or, clash}
use Rattle.meaning.specs.Choice.{digit, complement}
use Rattle.meaning.specs.Explanation.{Explanation, Repair}
use Rattle.meaning.proofs.Choices.{digit_high}
use Rattle.rounds.specs.Rounds.{Monotone}
use Rattle.rounds.specs.Right.{Fine, Grows}
use Rattle.rounds.proofs.Digits.{digit_in, inside_add, add_same, add_other, less_other, pow_le, complement_lt, back_lt}
use Rattle.rounds.proofs.Tests.{repair_bad}

module _ (n : ℕ) (old new : ℕ → Bool) (grows : Grows n old new) where
  pub explanations_stay : (x : ℕ) → x < 2 ^ n → Explanation (suc n) (Fine new) x ↔ Explanation n (Fine old) x
  explanations_stay x h = (
    (λ E. record { within = h; broken = λ e. E.broken (grows x h ∙ e); least = λ g d. sym (grows (x - 2 ^ g) (omega arith)) ∙ E.least g d }),
    (λ E. record { within = omega arith; broken = λ e. E.broken (sym (grows x h) ∙ e); least = λ g d. grows (x - 2 ^ g) (omega arith) ∙ E.least g d }),
  )

  module _ (mono : Monotone (suc n) new) where
    pub repairs_stay : (x : ℕ) → Repair n (Fine old) x → Repair (suc n) (Fine new) x ⊎ Repair (suc n) (Fine new) (x + 2 ^ n)
    repairs_stay x R = go (holds_or (new (complement n x + 2 ^ n)))
      where
        h : x < 2 ^ n
        h = R.within

        whole : complement (suc n) x ≡ complement n x + 2 ^ n
        whole = omega arith

        rest : complement (suc n) (x + 2 ^ n) ≡ complement n x
        rest = omega arith

        old_needed : (g : ℕ) → digit x g ≡ 1 → new (complement n x + 2 ^ g) ≡ true
        old_needed g d = grows (complement n x + 2 ^ g) (back_lt n x g h d) ∙ repair_bad n old x R g d

        still_needed : (g : ℕ) → digit x g ≡ 1 → new (complement (suc n) x + 2 ^ g) ≡ true
        still_needed g d =
            ap new (let e : complement (suc n) x + 2 ^ g ≡ complement n x + 2 ^ g + 2 ^ n = omega arith in e)
            ∙ mono (complement n x + 2 ^ g) (complement n x + 2 ^ g + 2 ^ n) (omega (arith, back_lt n x g h d))
            (inside_add (complement n x + 2 ^ g) n (digit_high n (complement n x + 2 ^ g) n (back_lt n x g h d) (omega arith))) (old_needed g d)

        go : (new (complement n x + 2 ^ n) ≡ true) ⊎ (new (complement n x + 2 ^ n) ≡ false) → Repair (suc n) (Fine new) x ⊎ Repair (suc n) (Fine new) (x + 2 ^ n)
        go (inr f) = inl (record { within = omega arith; mends = rw whole f; needed = λ g d e. clash (new (complement (suc n) x + 2 ^ g)) (still_needed g d) e })
        go (inl t) =
            inr (record {
              within = omega arith;
              mends = rw rest (grows (complement n x) (complement_lt n x) ∙ R.mends);
              needed = λ g d e. clash (new (complement n x + 2 ^ g)) (pick g d (ℕ_discrete g n)) (ap (λ (z : ℕ). new (z + 2 ^ g)) (sym rest) ∙ e);
            })
          where
            pick : (g : ℕ) → digit (x + 2 ^ n) g ≡ 1 → Dec (g ≡ n) → new (complement n x + 2 ^ g) ≡ true
            pick g d (yes e) = rw e t
            pick g d (no o) = old_needed g (sym (add_other x n g (digit_high n x n h (omega arith)) o) ∙ d)

  pub repairs_one : (x : ℕ) → x < 2 ^ n → Repair (suc n) (Fine new) x → Repair (suc n) (Fine new) (x + 2 ^ n) → ⊥
  repairs_one x h A B =
      B.needed n (add_same x n (digit_high n x n h (omega arith)))
      (ap new (let e : complement (suc n) (x + 2 ^ n) + 2 ^ n ≡ complement (suc n) x = omega arith in e) ∙ A.mends)

  pub repairs_came : (y : ℕ) → Repair (suc n) (Fine new) y → digit y n ≡ 1 → (x : ℕ) × (Repair n (Fine old) x × (y ≡ x + 2 ^ n))
  repairs_came y B d = (y - 2 ^ n, (record { within = b; mends = sym (grows (complement n (y - 2 ^ n)) (complement_lt n (y - 2 ^ n))) ∙ ap new rest ∙ B.mends; needed = needs }, omega (arith, l)))
    where
      l : 2 ^ n ≤ y
      l = pow_le y n d

      b : y - 2 ^ n < 2 ^ n
      b = omega (arith, B.within)

      rest : complement n (y - 2 ^ n) ≡ complement (suc n) y
      rest = omega (arith, B.within, l)

      needs : (g : ℕ) → digit (y - 2 ^ n) g ≡ 1 → old (complement n (y - 2 ^ n) + 2 ^ g) ≡ false → ⊥
      needs g e f =
          let k : g < n = digit_in n (y - 2 ^ n) g b e in
          B.needed g (sym (less_other y n g d (omega arith)) ∙ e)
          (ap (λ (z : ℕ). new (z + 2 ^ g)) (sym rest) ∙ grows (complement n (y - 2 ^ n) + 2 ^ g) (back_lt n (y - 2 ^ n) g b e) ∙ f)
