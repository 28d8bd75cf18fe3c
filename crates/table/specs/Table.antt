-- The table of a book's clauses in the working space: where each of the clauses stands in the book s, of v variables and m clauses.
--   Sized s v m         s is an accepted book of v variables and m clauses
--   Placed s at c       the clauses of the book s, from the one that has c before it, stand from byte `at` on
--   Places s v n w      the table has the places of the first n clauses
--   Prepared s kept pool w      it has all of them, and no level is too low
--   Kept s kept pool w w'       after some steps the space w' is ready, and the words from 8,192 on are those of w
--   Fresh n v m w w'    the first n variables have no level yet; places and the words from 8,192 on are unchanged
--   Tabled s v m w w'   the table is laid, and neither the levels nor the words from 8,192 on have changed
--   Laid s v m w        the table of the book s, of v variables and m clauses, is there
-- Assumes nothing: these are definitions.
use Rattle.std.specs.Prelude.{ℕ, ◌+◌, ◌≤◌, ◌<◌, ◌≡◌, List, length, get_or, take, drop}
use Rattle.book.specs.Bytes.{clauses_bytes}
use Rattle.book.specs.Walk.{book_of, IsBook}
use Rattle.levels.specs.Levels.{never, Settling}
use Rattle.lists.specs.Space.{Beside}

pub record Sized (s : List ℕ) (v m : ℕ) : Type 0 where
  pub book : IsBook s
  pub variables : v ≡ (book_of s).variables
  pub clauses : m ≡ length (book_of s).clauses

abbrev pub Placed : List ℕ → ℕ → ℕ → Type 0
Placed s at c = clauses_bytes (drop c (book_of s).clauses) ≡ drop at s

abbrev pub Places : List ℕ → ℕ → ℕ → List ℕ → Type 0
Places s v n w = (c : ℕ) → c < n → Placed s (get_or w (v + c) 0) c

pub record Prepared (s : List ℕ) (kept pool : ℕ) (w : List ℕ) : Type 0 where
  pub room : 8192 ≤ length w
  pub places : Places s (book_of s).variables (length (book_of s).clauses) w
  pub levels : Settling (book_of s) kept pool (take (book_of s).variables w)

pub record Kept (s : List ℕ) (kept pool : ℕ) (w w' : List ℕ) : Type 0 where
  pub ready : Prepared s kept pool w'
  pub rest : drop 8192 w' ≡ drop 8192 w
  pub long : length w' ≡ length w

pub record Fresh (n v m : ℕ) (w w' : List ℕ) : Type 0 where
  pub levels : (i : ℕ) → i < n → never ≤ get_or (take v w') i 0
  pub beside : Beside v m w w'

pub record Tabled (s : List ℕ) (v m : ℕ) (w w' : List ℕ) : Type 0 where
  pub places : Places s v m w'
  pub levels : take v w' ≡ take v w
  pub rest : drop 8192 w' ≡ drop 8192 w
  pub long : length w' ≡ length w

pub record Laid (s : List ℕ) (v m : ℕ) (w : List ℕ) : Type 0 where
  pub size : Sized s v m
  pub room : 8192 ≤ length w
  pub places : Places s v m w
