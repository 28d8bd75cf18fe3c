-- What functions that mark variables say of their marks on the way.
--   Under a f           every mark is in the set a
--   Flags f             each mark is 0 or 1
--   Partly b x f        f has a mark, 0 or 1, for each variable, and marks only variables that the choice forces: they are in every closed set
--   first_unmarked f ws  the first of some variables that has no mark; 0 if there is none
--   unmarked f          how many variables have no mark
-- Assumes nothing: these are definitions.
use Rattle.std.specs.Prelude.{ℕ, ◌+◌, ◌≤◌, ◌≡◌, List, [], ◌∷◌, Bool, true, cond, length, get_or, eqb}
use Rattle.meaning.specs.Book.{Book}
use Rattle.meaning.specs.Forced.{Closed, marked}

abbrev pub Under : (ℕ → Bool) → List ℕ → Type 0
Under a f = (v : ℕ) → marked f v ≡ true → a v ≡ true

abbrev pub Flags : List ℕ → Type 0
Flags f = (i : ℕ) → get_or f i 0 ≤ 1

pub record Partly (b : Book) (x : ℕ) (f : List ℕ) : Type 0 where
  pub length : length f ≡ b.variables
  pub flags : Flags f
  pub sound : (a : ℕ → Bool) → Closed b.clauses x a → Under a f

unfoldable pub first_unmarked : List ℕ → List ℕ → ℕ
first_unmarked f [] = 0
first_unmarked f (w ∷ ws) = cond (marked f w) (first_unmarked f ws) w

unfoldable pub unmarked : List ℕ → ℕ
unmarked [] = 0
unmarked (m ∷ f) = cond (eqb m 1) 0 1 + unmarked f
