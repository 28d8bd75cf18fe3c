-- What an answer rests on.
--   then_by, then_not       what follows a step, by the step
--   then_then               one step after another
--   then_is, unless_is      where the whole answers, each step answered
--   unless_none, unless_some   a step by its number
--   never                   an answer is no refusal
-- Assumes nothing.
use Prim.Native.Nat.{ℕ, zero, suc}
use mathlib.Core.Path.{◌≡◌, refl, sym, ap}
use native.Mathlib.Omega.{arith}
use Rattle.answer.specs.Answer.{Answer, answered, refused, and_then, unless}

module _ {A : Type 0} where
  pub never : (a : A) (n at : ℕ) → answered a ≡ refused n at → ⊥
  never a n at e = let z : ◌≡◌ {A = ℕ} 0 1 = cc in omega arith

  pub then_by : {B : Type 0} (a : Answer A) (x : A) (f : A → Answer B) → a ≡ answered x → and_then a f ≡ f x
  unfolding and_then
  then_by a x f e = ap (λ b. and_then b f) e

  pub then_not : {B : Type 0} (a : Answer A) (n at : ℕ) (f : A → Answer B) → a ≡ refused n at → and_then a f ≡ refused n at
  unfolding and_then
  then_not a n at f e = ap (λ b. and_then b f) e

  pub then_then : {B C : Type 0} (a : Answer A) (f : A → Answer B) (h : B → Answer C) → and_then (and_then a f) h ≡ and_then a (λ x. and_then (f x) h)
  unfolding and_then
  then_then (answered x) f h = refl
  then_then (refused n at) f h = refl

  pub then_is : {B : Type 0} (a : Answer A) (f : A → Answer B) (y : B) → and_then a f ≡ answered y → (x : A) × (a ≡ answered x) × (f x ≡ answered y)
  unfolding and_then
  then_is (answered x) f y e = (x, refl, e)
  then_is (refused n at) f y e = let z : ◌≡◌ {A = ℕ} 0 1 = cc in absurd (omega arith)

  pub unless_none : (n at : ℕ) (a : Answer A) → n ≡ 0 → unless n at a ≡ a
  unfolding unless
  unless_none zero at a e = refl
  unless_none (suc n) at a e = absurd (omega arith)

  -- n is what was found to be wrong
  pub unless_some : (n m at : ℕ) (a : Answer A) → n ≡ m → (n ≡ 0 → ⊥) → unless m at a ≡ refused n at
  unfolding unless
  unless_some zero m at a e h = absurd (h refl)
  unless_some (suc n) m at a e h = ap (λ (k : ℕ). unless k at a) (sym e)

  pub unless_is : (n at : ℕ) (a : Answer A) (x : A) → unless n at a ≡ answered x → (n ≡ 0) × (a ≡ answered x)
  unfolding unless
  unless_is zero at a x e = (refl, e)
  unless_is (suc n) at a x e = let z : ◌≡◌ {A = ℕ} 0 1 = cc in absurd (omega arith)
