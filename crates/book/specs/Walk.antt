-- An accepted book, and what is left of its clauses.
--   taken a       the book that was answered; one with nothing in it where there is none
--   book_of s      the book that s is, so taken
--   IsBook s      s is bytes, and they are accepted
--   answers a      whether a book was answered
--   is_accepted s  IsBook as a test
--   walks n r      each of the first n fields of r that are no end, which is three bytes long, has the least length of a clause and fits
--   left n r       the clauses that those fields are
-- Assumes nothing: these are definitions.
use Rattle.std.specs.Prelude.{ℕ, zero, suc, ◌≡◌, List, [], ◌∷◌, Bool, true, false, ◌&&◌, ◌||◌, cond, length, leb, ltb}
use Rattle.std.specs.List.{list_all}
use Rattle.answer.specs.Answer.{Answer, answered, refused}
use Rattle.field.specs.Words.{Bytes}
use Rattle.field.specs.Field.{size, after}
use Rattle.meaning.specs.Book.{Clause, Book}
use Rattle.book.specs.Reading.{clause_of, reading}

unfoldable pub taken : Answer Book → Book
taken (answered b) = b
taken (refused n at) = record { variables = 0; groups = 0; clauses = [] }

unfoldable pub book_of : List ℕ → Book
book_of s = taken (reading s)

pub record IsBook (s : List ℕ) : Type 0 where
  pub bytes : Bytes s
  pub read : reading s ≡ answered (book_of s)

unfoldable pub answers : Answer Book → Bool
answers (answered b) = true
answers (refused n at) = false

unfoldable pub is_accepted : List ℕ → Bool
is_accepted s = list_all (λ a. ltb a 256) s && answers (reading s)

unfoldable pub walks : ℕ → List ℕ → Bool
walks zero r = true
walks (suc n) r = ltb (length r) 7 || (leb 7 (size r) && leb (size r) (length r) && walks n (after r))

unfoldable pub left : ℕ → List ℕ → List Clause
left zero r = []
left (suc n) r = cond (ltb (length r) 7) [] (clause_of r ∷ left n (after r))
