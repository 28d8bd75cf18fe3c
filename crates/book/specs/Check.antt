-- What checking a book answers.
--   checked_is r      the answer of a check: the three numbers, or the refusal's number and place
--   numbers_of b      a book's variables, groups and clauses
--   checking s       what checking s answers
-- Assumes nothing: these are definitions.
use Rattle.std.specs.Prelude.{ℕ, List, [], ◌∷◌, Result, length}
use Rattle.answer.specs.Answer.{Answer, answered, and_then}
use Rattle.answer.specs.Refusals.{answer_is}
use Rattle.answer.specs.declared.Refusal.{Refusal}
use Rattle.meaning.specs.Book.{Book}
use Rattle.book.specs.Reading.{reading}
use Rattle.book.specs.declared.accepted.Book.{Book as Found}

abbrev pub checked_is : Result Found Refusal → Answer (List ℕ)
checked_is = answer_is (λ b. b.variables ∷ b.groups ∷ b.clauses ∷ [])

abbrev pub numbers_of : Book → List ℕ
numbers_of b = b.variables ∷ b.groups ∷ length b.clauses ∷ []

unfoldable pub checking : List ℕ → Answer (List ℕ)
checking s = and_then (reading s) (λ b. answered (numbers_of b))
