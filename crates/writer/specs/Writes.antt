-- What writing a plain form to a book answers, and what it writes.
--   writes xs room      the bytes that are to be written of xs into a space of so many bytes; or the refusal, the plain form's, then 1, then 11
-- Assumes nothing: these are definitions.
use Rattle.std.specs.Prelude.{ℕ, List, ℤ}
use Rattle.answer.specs.Answer.{Answer, and_then}
use Rattle.book.specs.Bytes.{bytes_in}
use Rattle.plain.specs.Taking.{taking}

unfoldable pub writes : List ℤ → ℕ → Answer (List ℕ)
writes xs room = and_then (taking xs) (bytes_in room)
