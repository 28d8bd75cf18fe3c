-- What the listing program prints, from the bytes that it reads alone.
--   answer_text a k      the listing of a book, begun empty, in room for k records; or the refusal
--   printed s k         the same of the bytes s
-- Assumes nothing: these are definitions.
use Rattle.std.specs.Prelude.{ℕ, List}
use Rattle.answer.specs.Answer.{Answer, answered, refused}
use Rattle.meaning.specs.Book.{Book}
use Rattle.book.specs.Reading.{reading}
use Rattle.demands.specs.Demands.{listing_of, says_complete}
use Rattle.report.specs.Text.{listing_text, refusal_text}

unfoldable pub answer_text : Answer Book → ℕ → List ℕ
answer_text (answered b) k = listing_text b.groups (listing_of b k) (says_complete b k)
answer_text (refused n at) k = refusal_text n at

abbrev pub printed : List ℕ → ℕ → List ℕ
printed s k = answer_text (reading s) k
