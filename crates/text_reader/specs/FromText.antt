-- What turning a text into a book answers, and what it writes.
--   from_text t room      the bytes that are to be written of the text t into a space of so many bytes; or the refusal, the text's, then 1, then 11
--   from_rest v n g i t room      the same of the lines t after the `p` line, which is line i and has those numbers
-- Assumes nothing: these are definitions.
use Rattle.std.specs.Prelude.{ℕ, List}
use Rattle.answer.specs.Answer.{Answer, and_then}
use Rattle.book.specs.Bytes.{bytes_in}
use Rattle.text.specs.Lines.{lines}
use Rattle.text.specs.Taking.{following, taking_text}

unfoldable pub from_text : List ℕ → ℕ → Answer (List ℕ)
from_text t room = and_then (taking_text t) (bytes_in room)

abbrev pub from_rest : ℕ → ℕ → ℕ → ℕ → List ℕ → ℕ → Answer (List ℕ)
from_rest v n g i t room = and_then (following v n g i (lines t)) (bytes_in room)
