-- Book X of document 01: its bytes, its plain form, and that each is taken as the other.
--   x             the book
--   x_bytes       its 60 bytes, a field to a line
--   x_plain       its plain form, a clause to a line
--   is_bytes, is_plain, is_read, is_taken      computed
-- Assumes nothing.
use Prim.Native.Nat.{ℕ}
use mathlib.Core.Path.{◌≡◌, refl}
use mathlib.Core.List.{List, [], ◌∷◌}
use lib.IntN.{ℤ, pos}
use lib.ListN.{length}
use Rattle.answer.specs.Answer.{answered, and_then, first, ◌or_else◌, unless}
use Rattle.field.specs.Words.{words, word_bytes, within, rising}
use Rattle.field.specs.Field.{short, field_bytes}
use Rattle.meaning.specs.Book.{clause_from, Book}
use Rattle.book.specs.Bytes.{clause_bytes, clauses_bytes, bytes_of}
use Rattle.book.specs.Reading.{wrong_header, wrong_clause, wrong_field, field, ending, following, fields, header, reading}
use Rattle.plain.specs.Plain.{minus, each, head_literal, plain_clause, plain_clauses, plain_of}
use Rattle.plain.specs.Taking.{between, number_at, groups_at, literals_at, starting, clauses_at, after_variables, taking}

abbrev pub x : Book
x =
    record {
      variables = 3;
      groups = 5;
      clauses = clause_from (0 ∷ []) 0 (3 ∷ [])
          ∷ clause_from (1 ∷ []) 1 []
          ∷ clause_from (2 ∷ []) 3 (1 ∷ [])
          ∷ clause_from (3 ∷ []) 2 []
          ∷ clause_from (4 ∷ []) 3 (2 ∷ [])
          ∷ clause_from (5 ∷ []) 2 (1 ∷ [])
          ∷ [];
    }

abbrev pub x_bytes : List ℕ
x_bytes =
    1 ∷ 0 ∷ 4 ∷ 0 ∷ 3 ∷ 0 ∷ 5
    ∷ 2 ∷ 0 ∷ 6 ∷ 0 ∷ 0 ∷ 0 ∷ 0 ∷ 0 ∷ 3
    ∷ 2 ∷ 0 ∷ 4 ∷ 0 ∷ 1 ∷ 0 ∷ 1
    ∷ 2 ∷ 0 ∷ 6 ∷ 0 ∷ 2 ∷ 0 ∷ 3 ∷ 0 ∷ 1
    ∷ 2 ∷ 0 ∷ 4 ∷ 0 ∷ 3 ∷ 0 ∷ 2
    ∷ 2 ∷ 0 ∷ 6 ∷ 0 ∷ 4 ∷ 0 ∷ 3 ∷ 0 ∷ 2
    ∷ 2 ∷ 0 ∷ 6 ∷ 0 ∷ 5 ∷ 0 ∷ 2 ∷ 0 ∷ 1
    ∷ 0 ∷ 0 ∷ 0 ∷ []

abbrev pub x_plain : List ℤ
x_plain =
    pos 3 ∷ pos 5
    ∷ pos 0 ∷ minus 3 ∷ pos 0
    ∷ pos 1 ∷ pos 1 ∷ pos 0
    ∷ pos 2 ∷ minus 1 ∷ pos 3 ∷ pos 0
    ∷ pos 3 ∷ pos 2 ∷ pos 0
    ∷ pos 4 ∷ minus 2 ∷ pos 3 ∷ pos 0
    ∷ pos 5 ∷ minus 1 ∷ pos 2 ∷ pos 0
    ∷ []

pub is_bytes : (bytes_of x ≡ x_bytes) × (length x_bytes ≡ 60)
unfolding bytes_of clauses_bytes clause_bytes field_bytes word_bytes
is_bytes = (refl, refl)

pub is_plain : plain_of x ≡ x_plain
unfolding each head_literal plain_clause plain_clauses plain_of
is_plain = refl

pub is_read : reading x_bytes ≡ answered x
unfolding words within rising short wrong_header wrong_clause wrong_field field ending following fields header reading and_then first ◌or_else◌ unless
is_read = refl

pub is_taken : taking x_plain ≡ answered x
unfolding between number_at groups_at literals_at starting clauses_at after_variables taking and_then first unless
is_taken = refl
