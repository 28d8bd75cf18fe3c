-- What the steps of writing answer.
--   scan_of count a    a clause's literals up to its 0, after `count` body literals: its head, how many are in its body, the index past its 0
--   taken_of a         the header's numbers and the length of the book that is to be written
--   room_tests room n  what is tested of the room for a book of n bytes in a space of so many
--   book_from xs       the book that a plain form is taken as
--   IsPlain xs        the plain form is taken
--   amounts xs        numbers without their signs, as far as two bytes hold them
-- Assumes nothing: these are definitions.
use Rattle.std.specs.Prelude.{ℕ, ◌+◌, ◌%◌, ◌≡◌, List, [], ◌∷◌, map, ℤ, nat_abs, length, ltb}
use Rattle.answer.specs.Answer.{Answer, answered, refused, Test, ◌⇒◌}
use Rattle.meaning.specs.Book.{Book}
use Rattle.book.specs.Bytes.{most_bytes, bytes_of}
use Rattle.book.specs.Walk.{taken}
use Rattle.plain.specs.Taking.{Ended, taking}
use Rattle.writer.specs.declared.Scanned.{Scanned}
use Rattle.writer.specs.declared.Taken.{Taken}

unfoldable pub scan_of : ℕ → Answer Ended → Answer Scanned
scan_of count (answered e) = answered (record { head = e.head; count = count + length e.body; next = e.next })
scan_of count (refused n i) = refused n i

unfoldable pub taken_of : Answer Book → Answer Taken
taken_of (answered b) = answered (record { variables = b.variables; groups = b.groups; length = length (bytes_of b) })
taken_of (refused n i) = refused n i

abbrev pub room_tests : ℕ → ℕ → List Test
room_tests room n = (ltb most_bytes n ⇒ 1) ∷ (ltb room n ⇒ 11) ∷ []

unfoldable pub book_from : List ℤ → Book
book_from xs = taken (taking xs)

unfoldable pub IsPlain : List ℤ → Type 0
IsPlain xs = taking xs ≡ answered (book_from xs)

abbrev pub amounts : List ℤ → List ℕ
amounts xs = map (λ x. nat_abs x % 65536) xs
