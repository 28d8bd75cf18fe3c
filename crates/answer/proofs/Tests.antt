-- Where a list of tests gives 0 none of them holds; one number or else another.
--   Clear ts                   none of some tests holds
--   first_clear                where first ts is 0, none holds
--   or_none, or_some           n or_else m, by n
--   or_zero                    where n or_else m is 0, both are
--   and_left, and_right, and_both      of two tests together
--   holds_or, clash            a test holds or does not, and never both
-- Assumes nothing.
use Prim.Native.Nat.{ℕ, zero, suc}
use mathlib.Core.Path.{◌≡◌, refl, sym, ◌∙◌}
use mathlib.Core.Logic.{◌⊎◌, inl, inr}
use mathlib.Core.List.{List, [], ◌∷◌}
use mathlib.Core.Bool.{Bool, true, false, ◌&&◌, true≢false, false≢true}
use native.Mathlib.Omega.{arith}
use Rattle.answer.specs.Answer.{Test, ◌⇒◌, first, ◌or_else◌}

-- a test whose number is 0 refuses nothing, and nothing is said of it
abbrev pub Clear : List Test → Type 0
Clear [] = Unit {0}
Clear ((b ⇒ zero) ∷ ts) = Unit {0}
Clear ((b ⇒ suc n) ∷ ts) = (b ≡ false) × Clear ts

pub first_clear : (ts : List Test) → first ts ≡ 0 → Clear ts
unfolding first
first_clear [] h = tt
first_clear ((b ⇒ zero) ∷ ts) h = tt
first_clear ((false ⇒ suc n) ∷ ts) h = (refl, first_clear ts h)
first_clear ((true ⇒ suc n) ∷ ts) h = absurd (omega arith)

pub or_none : (n m : ℕ) → n ≡ 0 → n or_else m ≡ m
unfolding ◌or_else◌
or_none zero m e = refl
or_none (suc n) m e = absurd (omega arith)

pub or_some : (n m : ℕ) → (n ≡ 0 → ⊥) → n or_else m ≡ n
unfolding ◌or_else◌
or_some zero m e = absurd (e refl)
or_some (suc n) m e = refl

pub or_zero : (n m : ℕ) → n or_else m ≡ 0 → (n ≡ 0) × (m ≡ 0)
unfolding ◌or_else◌
or_zero zero m e = (refl, e)
or_zero (suc n) m e = absurd (omega arith)

pub and_left : (a b : Bool) → (a && b) ≡ true → a ≡ true
and_left true b e = refl
and_left false b e = e

pub and_right : (a b : Bool) → (a && b) ≡ true → b ≡ true
and_right true b e = e
and_right false b e = absurd (false≢true e)

pub and_both : (a b : Bool) → a ≡ true → b ≡ true → (a && b) ≡ true
and_both a b e f = rw (e, f)

pub holds_or : (b : Bool) → (b ≡ true) ⊎ (b ≡ false)
holds_or true = inl refl
holds_or false = inr refl

pub clash : (b : Bool) → b ≡ true → b ≡ false → ⊥
clash b p q = true≢false (sym p ∙ q)
