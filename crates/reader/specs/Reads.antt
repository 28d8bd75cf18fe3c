-- What reading a book to plain form answers, and what it writes.
--   reads s room      the plain form that is to be written of s into a space of so many numbers; or the refusal, the book's and then 11
-- Assumes nothing: these are definitions.
use Rattle.std.specs.Prelude.{ℕ, List, ℤ}
use Rattle.answer.specs.Answer.{Answer, and_then}
use Rattle.answer.specs.Space.{fitting}
use Rattle.book.specs.Reading.{reading}
use Rattle.plain.specs.Plain.{plain_of}

unfoldable pub reads : List ℕ → ℕ → Answer (List ℤ)
reads s room = and_then (reading s) (λ b. fitting room (plain_of b))
