-- Records as words: the kind (1 explanation, 2 repair), then the set. Only this file and this crate know it.
--   record_words         how many words a record has
--   room ws             how many whole records a space holds
--   kind_at ws i         the kind of record i, counted from 0
--   set_at ws i          its set
--   record_from k s      the record of a kind and a set
--   records_of ws c      the first c records of a space
--   kind_of r, set_of r   the kind and the set of a record
--   kind_is k s, record_is r      the record that code's `Record` is, by its kind and its set
--   words_of rs          the words of some records
--   put_record ws i k s  the space with the words of record i replaced
--   faulty n i w        w cannot be word i of the records of a book with n groups: no kind, or a set beyond the groups
--   fault n ws c        the index of the lowest such word of the first c records; as many as their words where there is none
-- Assumes nothing: these are definitions.
use Rattle.std.specs.Prelude.{ℕ, zero, suc, ◌+◌, ◌*◌, ◌/◌, ◌%◌, ◌^◌, List, [], ◌∷◌, Bool, not, ◌&&◌, cond, eqb, ltb, length, get_or, set, drop}
use Rattle.rounds.specs.Records.{Record, explains, repairs}
use Rattle.rounds.specs.Rounds.{first_from}
use Rattle.records.specs.declared.Kind.{Kind}
use Rattle.records.specs.declared.Kind.TheVariants.{Explanation, Repair}
use Rattle.records.specs.declared.Record as code

abbrev pub record_words : ℕ
record_words = 2

abbrev pub room : List ℕ → ℕ
room ws = length ws / record_words

abbrev pub kind_at : List ℕ → ℕ → ℕ
kind_at ws i = get_or ws (record_words * i) 0

abbrev pub set_at : List ℕ → ℕ → ℕ
set_at ws i = get_or ws (record_words * i + 1) 0

unfoldable pub record_from : ℕ → ℕ → Record
record_from k s = cond (eqb k 1) (explains s) (repairs s)

unfoldable pub records_of : List ℕ → ℕ → List Record
records_of ws zero = []
records_of ws (suc c) = record_from (kind_at ws 0) (set_at ws 0) ∷ records_of (drop record_words ws) c

unfoldable pub kind_of : Record → ℕ
kind_of (explains e) = 1
kind_of (repairs r) = 2

unfoldable pub set_of : Record → ℕ
set_of (explains e) = e
set_of (repairs r) = r

abbrev pub kind_is : Kind → ℕ → Record
kind_is Explanation = explains
kind_is Repair = repairs

abbrev pub record_is : code.Record → Record
record_is r = kind_is r.kind r.set

unfoldable pub words_of : List Record → List ℕ
words_of [] = []
words_of (r ∷ rs) = kind_of r ∷ set_of r ∷ words_of rs

unfoldable pub put_record : List ℕ → ℕ → ℕ → ℕ → List ℕ
put_record ws i k s = set (set ws (record_words * i) k) (record_words * i + 1) s

unfoldable pub faulty : ℕ → ℕ → ℕ → Bool
faulty n i w = cond (eqb (i % record_words) 0) (not (eqb w 1) && not (eqb w 2)) (not (ltb w (2 ^ n)))

unfoldable pub fault : ℕ → List ℕ → ℕ → ℕ
fault n ws c = first_from (λ i. faulty n i (get_or ws i 0)) (record_words * c) 0
