-- A call answers, or it refuses by number and place.
--   Answer A         answered a, or refused number place
--   and_then a f      f of what a answers; a's refusal stays
--   Test, b ⇒ n      a test, and the number of the refusal that is given where it holds
--   first ts         the number of the first of some tests that holds; 0 where none does
--   n or_else m       n, or m where n is 0
--   unless n at a    refused n at; or a where n is 0
-- Assumes nothing: these are definitions.
use Rattle.std.specs.Prelude.{ℕ, zero, suc, List, [], ◌∷◌, Bool, cond}

pub data Answer (A : Type 0) : Type 0 where
  answered : A → Answer A
  refused : ℕ → ℕ → Answer A

unfoldable pub and_then : {A B : Type 0} → Answer A → (A → Answer B) → Answer B
and_then (answered a) f = f a
and_then (refused n at) f = refused n at

infix 20 ◌⇒◌
pub data Test : Type 0 where
  ◌⇒◌ : Bool → ℕ → Test

unfoldable pub first : List Test → ℕ
first [] = 0
first ((b ⇒ n) ∷ ts) = cond b n (first ts)

infixr 15 ◌or_else◌
unfoldable pub ◌or_else◌ : ℕ → ℕ → ℕ
zero or_else m = m
suc n or_else m = suc n

unfoldable pub unless : {A : Type 0} → ℕ → ℕ → Answer A → Answer A
unless zero at a = a
unless (suc n) at a = refused (suc n) at
