-- How a rule book is read: the book that some bytes are, or the refusal with its number and place.
-- `r` is always what is left of the book, with a field first in it, and `at` the place of that field. Each kind of field has one list of tests,
-- in the order in which document 01 has them made.
--   variables_of, groups_of      a header's numbers
--   group_of, head_of, body_part  a clause's numbers, and the bytes of its body
--   clause_of r                 the clause that a field is
--   start_tests r               what is tested of every field
--   header_tests r              then of the first field
--   later_tests r               then of any later field
--   end_tests r                 then of the end
--   shape_tests left r          or of a clause, where room is left for so many clauses
--   number_tests v g r          then of its numbers, where there are v variables and g groups
--   wrong_header, wrong_clause, wrong_field      the number of the first test that holds; 0 where nothing is wrong
--   field v g left at r        what a field is: a clause, or none for the end; or the refusal
--   ending at r                nothing may follow the end
--   following o at r more      what comes after the field: the end, or more clauses
--   fields v g left at r       the clauses from here to the end, or the refusal
--   header s                   a book's variables and groups, with no clause yet, or the refusal
--   with_clauses v g cs         the book of those
--   reading s                  the book that s is, or the refusal
-- Assumes nothing: these are definitions.
use Rattle.std.specs.Prelude.{ℕ, zero, suc, ◌+◌, ◌-◌, ◌%◌, List, [], ◌∷◌, not, cond, length, take, drop, ltb, eqb}
use Rattle.std.proofs.Math.Option.{Option, none, some}
use Rattle.answer.specs.Answer.{Answer, answered, refused, and_then, Test, ◌⇒◌, first, ◌or_else◌, unless}
use Rattle.field.specs.Words.{word_at, words, within, rising}
use Rattle.field.specs.Field.{tag, len, size, short, after}
use Rattle.meaning.specs.Book.{Clause, Book}
use Rattle.book.specs.Bytes.{most_bytes, most_variables, most_groups, most_clauses}

abbrev pub variables_of : List ℕ → ℕ
variables_of r = word_at r 3

abbrev pub groups_of : List ℕ → ℕ
groups_of r = word_at r 5

abbrev pub group_of : List ℕ → ℕ
group_of r = word_at r 3

abbrev pub head_of : List ℕ → ℕ
head_of r = word_at r 5

abbrev pub body_part : List ℕ → List ℕ
body_part r = take (len r - 4) (drop 7 r)

abbrev pub clause_of : List ℕ → Clause
clause_of r = record { groups = group_of r ∷ []; head = head_of r; body = words (body_part r) }

abbrev pub start_tests : List ℕ → List Test
start_tests r = (short r ⇒ 2) ∷ (ltb 2 (tag r) ⇒ 3) ∷ []

abbrev pub header_tests : List ℕ → List Test
header_tests r =
    (not (eqb (tag r) 1) ⇒ 4)
    ∷ (not (eqb (len r) 4) ⇒ 5)
    ∷ (ltb (variables_of r) 1 ⇒ 7)
    ∷ (ltb most_variables (variables_of r) ⇒ 7)
    ∷ (ltb most_groups (groups_of r) ⇒ 7)
    ∷ []

abbrev pub later_tests : List ℕ → List Test
later_tests r = (eqb (tag r) 1 ⇒ 4) ∷ []

abbrev pub end_tests : List ℕ → List Test
end_tests r = (not (eqb (len r) 0) ⇒ 5) ∷ []

abbrev pub shape_tests : ℕ → List ℕ → List Test
shape_tests left r =
    (ltb (len r) 4 ⇒ 5)
    ∷ (eqb (len r % 2) 1 ⇒ 5)
    ∷ (ltb 68 (len r) ⇒ 5)
    ∷ (eqb left 0 ⇒ 6)
    ∷ []

abbrev pub number_tests : ℕ → ℕ → List ℕ → List Test
number_tests v g r =
    (ltb g (group_of r) ⇒ 7)
    ∷ (ltb v (head_of r) ⇒ 7)
    ∷ (not (within 1 v (words (body_part r))) ⇒ 7)
    ∷ (not (rising 0 (words (body_part r))) ⇒ 8)
    ∷ []

unfoldable pub wrong_header : List ℕ → ℕ
wrong_header r = first (start_tests r) or_else first (header_tests r)

unfoldable pub wrong_clause : ℕ → ℕ → ℕ → List ℕ → ℕ
wrong_clause v g left r = first (shape_tests left r) or_else first (number_tests v g r)

unfoldable pub wrong_field : ℕ → ℕ → ℕ → List ℕ → ℕ
wrong_field v g left r = first (start_tests r) or_else first (later_tests r) or_else cond (eqb (tag r) 0) (first (end_tests r)) (wrong_clause v g left r)

unfoldable pub field : ℕ → ℕ → ℕ → ℕ → List ℕ → Answer (Option Clause)
field v g left at r = unless (wrong_field v g left r) at (answered (cond (eqb (tag r) 0) none (some (clause_of r))))

unfoldable pub ending : ℕ → List ℕ → Answer (List Clause)
ending at [] = answered []
ending at (a ∷ r) = refused 9 at

unfoldable pub following : Option Clause → ℕ → List ℕ → (Clause → Answer (List Clause)) → Answer (List Clause)
following none at r more = ending (at + size r) (after r)
following (some c) at r more = more c

-- where no room is left a clause is refused by its field already, so the first line's own 6 is never given
unfoldable pub fields : ℕ → ℕ → ℕ → ℕ → List ℕ → Answer (List Clause)
fields v g zero at r = and_then (field v g zero at r) (λ o. following o at r (λ c. refused 6 at))
fields v g (suc left) at r =
    and_then (field v g (suc left) at r)
    (λ o. following o at r (λ c. and_then (fields v g left (at + size r) (after r)) (λ cs. answered (c ∷ cs))))

unfoldable pub header : List ℕ → Answer Book
header s =
    unless (first ((ltb most_bytes (length s) ⇒ 1) ∷ []) or_else wrong_header s) 0
    (answered (record { variables = variables_of s; groups = groups_of s; clauses = [] }))

abbrev pub with_clauses : ℕ → ℕ → List Clause → Answer Book
with_clauses v g cs = answered (record { variables = v; groups = g; clauses = cs })

unfoldable pub reading : List ℕ → Answer Book
reading s = and_then (header s) (λ b. and_then (fields b.variables b.groups most_clauses (size s) (after s)) (with_clauses b.variables b.groups))
