-- What stands before every call on a book and a choice, and the working space.
--   lack_from k g x     the lowest group above g that the choice x names, of the next k groups; 0 if there is none
--   lacking g x        the lowest group, of the 32 there can be, that the choice names and a book of g groups lacks; 0 if there is none
--   admits s x         the book that s is, where it has every group that the choice names; else the refusal, the book's before 10
--   found_number g     the number of the group that was found to lack; 0 where none was
--   work_words          how many words of working space a call needs
--   zeros              what it leaves in them
-- Assumes nothing: these are definitions.
use Rattle.std.specs.Prelude.{ℕ, Option, Some, None, zero, suc, ◌+◌, ◌-◌, List, [], ◌∷◌, not, cond, eqb, replicate}
use Rattle.answer.specs.Answer.{Answer, answered, and_then, ◌⇒◌, first, unless}
use Rattle.meaning.specs.Book.{Book}
use Rattle.meaning.specs.Choice.{digit}
use Rattle.book.specs.Bytes.{most_groups}
use Rattle.book.specs.Reading.{reading}

unfoldable pub lack_from : ℕ → ℕ → ℕ → ℕ
lack_from zero g x = 0
lack_from (suc k) g x = cond (eqb (digit x g) 1) (g + 1) (lack_from k (g + 1) x)

unfoldable pub lacking : ℕ → ℕ → ℕ
lacking g x = lack_from (most_groups - g) g x

unfoldable pub admits : List ℕ → ℕ → Answer Book
admits s x = and_then (reading s) (λ b. unless (first ((not (eqb (lacking b.groups x) 0) ⇒ 10) ∷ [])) (lacking b.groups x) (answered b))

abbrev pub found_number : Option ℕ → ℕ
found_number None = 0
found_number (Some g) = g

abbrev pub work_words : ℕ
work_words = 8192

unfoldable pub zeros : List ℕ
zeros = replicate work_words 0
