-- What is made of a book clause by clause, written as a whole. `one` is what is made of a clause.
--   Joins one all        `all` makes of some items, as clauses, what `one` makes of each, one after the other
--   Filling, filling_room, filling_next, filling_end      the invariant of a loop that writes from place s on: what its turn needs, its next turn, its end
-- Assumes nothing.
use Prim.Native.Nat.{ℕ, ◌+◌, ◌≤◌}
use mathlib.Core.Path.{◌≡◌, ap, ◌∙◌}
use mathlib.Core.List.{List, [], ◌∷◌, ◌++◌}
use native.Mathlib.Omega.{arith}
use lib.ListN.{length, length-append}
use Rattle.answer.specs.Space.{Wrote}
use Rattle.answer.proofs.Spaces.{Writing, writing_room, writing_end, writing_next}
use Rattle.meaning.specs.Book.{Clause}

pub record Joins {A B : Type 0} (one : B → List A) (all : List B → List A) : Type 0 where
  pub none : all [] ≡ []
  pub more : (b : B) (bs : List B) → all (b ∷ bs) ≡ one b ++ all bs

abbrev pub Filling : {A : Type 0} → (List Clause → List A) → ℕ → List Clause → List A → List Clause → List A → ℕ → Type 0
Filling all s whole out₀ left out at = Writing (all whole) out₀ s out at (all left)

module _ {A : Type 0} (one : Clause → List A) (all : List Clause → List A) (joins : Joins one all) (s : ℕ) (whole : List Clause) where
  -- at a clause
  module _ (left : List Clause) (c : Clause) (later : List Clause) (is : left ≡ c ∷ later) where
    pub made : all left ≡ one c ++ all later
    made = ap all is ∙ joins.more c later

    made_length : length (all left) ≡ length (one c) + length (all later)
    made_length = ap length made ∙ length-append (one c) (all later)

  -- writing
  module _ (out₀ out : List A) (at : ℕ) (left : List Clause) (k : Filling all s whole out₀ left out at) where
    pub filling_end : left ≡ [] → Wrote out₀ s (all whole) out at
    filling_end e = writing_end (all whole) out₀ s out at (all left) k (ap all e ∙ joins.none)

    module _ (c : Clause) (later : List Clause) (is : left ≡ c ∷ later) where
      pub filling_room : s + length (all whole) ≤ length out₀ → at + length (one c) ≤ length out
      filling_room h = omega (arith, writing_room (all whole) out₀ s out at (all left) k h, made_length left c later is)

      pub filling_next : (at' : ℕ) (out' : List A) → Wrote out at (one c) out' at' → Filling all s whole out₀ later out' at'
      filling_next at' out' w = writing_next (all whole) out₀ s out at (all left) k (one c) (all later) out' at' (made left c later is) w
