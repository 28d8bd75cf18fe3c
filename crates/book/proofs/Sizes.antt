-- How many bytes a book is.
--   clause_length       a clause's field
--   fields_length cs     the fields of some clauses together
--   header_length, book_length      the header, and the whole book
--   written_length      by document 01's sum, where the book is well formed
-- Assumes nothing.
use Prim.Native.Nat.{ℕ, ◌+◌, ◌*◌}
use mathlib.Core.Path.{◌≡◌, refl}
use mathlib.Core.List.{List, [], ◌∷◌, ◌++◌}
use native.Mathlib.Omega.{arith}
use lib.ListN.{length, length-append}
use Rattle.field.specs.Words.{word_bytes}
use Rattle.field.specs.Field.{field_bytes}
use Rattle.field.proofs.Words.{length_word_bytes}
use Rattle.field.proofs.Fields.{length_field}
use Rattle.meaning.specs.Book.{Clause, Book}
use Rattle.book.specs.Bytes.{GoodClauses, WellFormed, clause_bytes, clauses_bytes, bytes_of, sizes_of}

pub clause_length : (c : Clause) → length (clause_bytes c) ≡ 5 + 2 * length c.groups + 2 * length c.body
unfolding clause_bytes
clause_length c =
    let ws : List ℕ = c.groups ++ (c.head ∷ c.body) in
    omega (arith, length_field 2 (word_bytes ws), length_word_bytes ws, length-append c.groups (c.head ∷ c.body))

unfoldable pub fields_length : List Clause → ℕ
fields_length [] = 0
fields_length (c ∷ cs) = length (clause_bytes c) + fields_length cs

clauses_length : (cs : List Clause) → length (clauses_bytes cs) ≡ 3 + fields_length cs
unfolding clauses_bytes fields_length field_bytes
clauses_length [] = refl
clauses_length (c ∷ cs) = omega (arith, length-append (clause_bytes c) (clauses_bytes cs), clauses_length cs)

pub header_length : (b : Book) → length (bytes_of b) ≡ 7 + length (clauses_bytes b.clauses)
unfolding bytes_of field_bytes word_bytes
header_length b = omega arith

pub book_length : (b : Book) → length (bytes_of b) ≡ 10 + fields_length b.clauses
book_length b = omega (arith, header_length b, clauses_length b.clauses)

good_length : (v g : ℕ) (cs : List Clause) → GoodClauses v g cs → fields_length cs ≡ sizes_of cs
unfolding fields_length sizes_of
good_length v g [] good = refl
good_length v g (c ∷ cs) good = omega (arith, clause_length c, good.0.one, good_length v g cs good.1)

pub written_length : (b : Book) → WellFormed b → length (bytes_of b) ≡ 10 + sizes_of b.clauses
written_length b k = omega (arith, book_length b, good_length b.variables b.groups b.clauses k.good)
