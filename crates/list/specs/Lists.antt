-- What one round and a listing answer, and what they leave.
--   told r                what a listing tells: the count, and 1 for complete or 0 for stopped
--   listed_is r            the answer that a result is: what the listing tells, or the refusal
--   opens s ws c          the book that s is, where c records of it can stand in the words ws; or the refusal: the book's, then 14
--   lists s ws c words    the same, where the working space has `words` words; or the refusal: then 11
--   rounds b k ws c       the first c records of ws, and what at most k rounds add to them
--   said b rs             what is answered of records: their number, and 1 where no seed remains, else 0
--   Adds b x i ws ws'     the words ws become ws': record i is what the seed x yields
--   Rounding b k r ws c ws'     r is the answer after at most k rounds, and ws become ws': the records stand in the front; a spare word and all unused
--                         words stay
--   Listing a k r ws c work ws' work'      the same of the book that a is, or the refusal; and work becomes work'
-- Assumes nothing: these are definitions.
use Rattle.std.specs.Prelude.{ℕ, Result, ◌*◌, ◌≡◌, List, [], ◌∷◌, cond, ltb, length}
use Rattle.answer.specs.Answer.{Answer, answered, and_then, ◌⇒◌, first, unless}
use Rattle.answer.specs.Refusals.{answer_is}
use Rattle.answer.specs.declared.Refusal.{Refusal}
use Rattle.answer.specs.Space.{over, laid}
use Rattle.meaning.specs.Book.{Book}
use Rattle.meaning.specs.Forced.{inconsistent}
use Rattle.rounds.specs.Records.{Record}
use Rattle.rounds.specs.Rounds.{found, listing, complete}
use Rattle.records.specs.Words.{record_words, room, records_of, kind_of, set_of, words_of, put_record, fault}
use Rattle.book.specs.Reading.{reading}
use Rattle.admit.specs.Admits.{work_words, zeros}
use Rattle.list.specs.declared.Listed.{Listed}
use Rattle.list.specs.declared.Listed.TheVariants as ListedV

abbrev pub told : Listed → List ℕ
told (ListedV.Complete n) = n ∷ 1 ∷ []
told (ListedV.Stopped n) = n ∷ 0 ∷ []

abbrev pub listed_is : Result Listed Refusal → Answer (List ℕ)
listed_is = answer_is told

unfoldable pub opens : List ℕ → List ℕ → ℕ → Answer Book
opens s ws c =
    and_then (reading s) λ b.
    unless (first ((ltb (room ws) c ⇒ 14) ∷ [])) (length ws)
    (unless (first ((ltb (fault b.groups ws c) (record_words * c) ⇒ 14) ∷ [])) (fault b.groups ws c)
    (answered b))

unfoldable pub lists : List ℕ → List ℕ → ℕ → ℕ → Answer Book
lists s ws c words = and_then (opens s ws c) (λ b. unless (first ((ltb words work_words ⇒ 11) ∷ [])) 0 (answered b))

unfoldable pub rounds : Book → ℕ → List ℕ → ℕ → List Record
rounds b k ws c = listing b.groups (inconsistent b) k (records_of ws c)

unfoldable pub said : Book → List Record → List ℕ
said b rs = length rs ∷ cond (complete b.groups rs) 1 0 ∷ []

abbrev pub Adds : Book → ℕ → ℕ → List ℕ → List ℕ → Type 0
Adds b x i ws ws' = let r = found b.groups (inconsistent b) x in ws' ≡ put_record ws i (kind_of r) (set_of r)

abbrev pub Rounding : Book → ℕ → Listed → (ws : List ℕ) (c : ℕ) (ws' : List ℕ) → Type 0
Rounding b k r ws c ws' = (told r ≡ said b (rounds b k ws c)) × (ws' ≡ over (words_of (rounds b k ws c)) ws)

abbrev pub Listing : Answer Book → ℕ → Result Listed Refusal → (ws : List ℕ) (c : ℕ) (work ws' work' : List ℕ) → Type 0
Listing a k r ws c work ws' work' =
    (listed_is r ≡ and_then a (λ b. answered (said b (rounds b k ws c))))
    × (ws' ≡ laid (and_then a (λ b. answered (words_of (rounds b k ws c)))) ws)
    × (work' ≡ laid (and_then a (λ b. answered zeros)) work)
