-- What a clause says, and when a choice is consistent. An assignment tells of each variable whether it is true.
--   every a ws         each of the numbers passes the test a
--   in_force x c        the clause is in force for the choice x: each of its groups is chosen
--   Says a h           the head h is true; no head is never true
--   Satisfies a c      if the whole body is true, so is the head
--   SatisfiesAll a cs x      the assignment satisfies all clauses in force
--   Consistent cs x    some assignment does
-- Assumes nothing: these are definitions.
use Rattle.std.specs.Prelude.{ℕ, zero, suc, ◌≡◌, Bool, true, ◌&&◌}
use mathlib.Core.List.{List, [], ◌∷◌, Memᴰ}
use Rattle.meaning.specs.Book.{Clause}
use Rattle.meaning.specs.Choice.{chosen}

unfoldable pub every : (ℕ → Bool) → List ℕ → Bool
every a [] = true
every a (w ∷ ws) = a w && every a ws

abbrev pub in_force : ℕ → Clause → Bool
in_force x c = every (chosen x) c.groups

abbrev pub Says : (ℕ → Bool) → ℕ → Type 0
Says a zero = ⊥
Says a (suc h) = a (suc h) ≡ true

abbrev pub Satisfies : (ℕ → Bool) → Clause → Type 0
Satisfies a c = every a c.body ≡ true → Says a c.head

abbrev pub SatisfiesAll : (ℕ → Bool) → List Clause → ℕ → Type 0
SatisfiesAll a cs x = (c : Clause) → Memᴰ c cs → in_force x c ≡ true → Satisfies a c

abbrev pub Consistent : List Clause → ℕ → Type 0
Consistent cs x = (a : ℕ → Bool) × SatisfiesAll a cs x
