-- What turning a book into text answers, and what it writes.
--   to_text s room      the text that is to be written of s into a space of so many bytes; or the refusal, the book's and then 11
-- Assumes nothing: these are definitions.
use Rattle.std.specs.Prelude.{ℕ, List}
use Rattle.answer.specs.Answer.{Answer, and_then}
use Rattle.answer.specs.Space.{fitting}
use Rattle.book.specs.Reading.{reading}
use Rattle.text.specs.Writing.{text_of}

unfoldable pub to_text : List ℕ → ℕ → Answer (List ℕ)
to_text s room = and_then (reading s) (λ b. fitting room (text_of b))
