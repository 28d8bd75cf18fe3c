-- What choices force and break, computed: cases 5, 6, 7 and 11 of document 01, and others of Book X.
--   Row           a book, a choice, its forced variables, its lowest broken goal or 0
--   Forces        each of some rows is so
--   eleven        the book of case 11: group 1 forces both variables by two clauses, group 2 forbids both together
--   choice_cases  the table
-- Assumes nothing.
use Prim.Native.Nat.{ℕ}
use mathlib.Core.Path.{◌≡◌, refl}
use mathlib.Core.List.{List, [], ◌∷◌}
use Rattle.meaning.specs.Book.{clause_from, Book}
use Rattle.meaning.specs.Choice.{digit, chosen}
use Rattle.meaning.specs.Consistent.{every}
use Rattle.meaning.specs.Forced.{marked, put, pass, passes, broken, lowest, forced, forced_in, broken_in}
use Rattle.cases.proofs.BookX.{x}

pub record Row : Type 0 where
  pub book : Book
  pub choice : ℕ
  pub forces : List ℕ
  pub breaks : ℕ

abbrev row : Book → ℕ → List ℕ → ℕ → Row
row b c f n = record { book = b; choice = c; forces = f; breaks = n }

abbrev pub Forces : List Row → Type 0
Forces [] = Unit {0}
Forces (r ∷ rows) = (forced_in r.book r.choice ≡ r.forces) × (broken_in r.book r.choice ≡ r.breaks) × Forces rows

abbrev pub eleven : Book
eleven =
    record {
      variables = 2;
      groups = 2;
      clauses = clause_from (1 ∷ []) 1 [] ∷ clause_from (1 ∷ []) 2 [] ∷ clause_from (2 ∷ []) 0 (1 ∷ 2 ∷ []) ∷ [];
    }

pub choice_cases : Forces
    (row x 26 (0 ∷ 0 ∷ 0 ∷ []) 0
    ∷ row x 21 (1 ∷ 1 ∷ 0 ∷ []) 0
    ∷ row x 31 (1 ∷ 1 ∷ 1 ∷ []) 1
    ∷ row x 0 (0 ∷ 0 ∷ 0 ∷ []) 0
    ∷ row x 3 (1 ∷ 0 ∷ 1 ∷ []) 1
    ∷ row x 25 (1 ∷ 1 ∷ 1 ∷ []) 1
    ∷ row eleven 1 (1 ∷ 1 ∷ []) 0
    ∷ row eleven 2 (0 ∷ 0 ∷ []) 0
    ∷ row eleven 3 (1 ∷ 1 ∷ []) 3
    ∷ [])
unfolding digit chosen every marked put pass passes broken lowest forced forced_in broken_in
choice_cases = (refl, refl, (refl, refl, (refl, refl, (refl, refl, (refl, refl, (refl, refl, (refl, refl, (refl, refl, (refl, refl, tt)))))))))
