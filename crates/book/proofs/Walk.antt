-- The clauses of an accepted book, as they stand in its bytes.
--   read, well_formed      an accepted book is read from its bytes, and is well formed
--   is_book, found, reads_as      what the invariant of a `Book` says
--   Walk v g r cs      r is the bytes of the clauses cs, which are good, with the end after them
--   Begun, begun       the clauses begin past the header
--   Stands, stands     a clause that stands first in some bytes
--   left_walk, walks_walk      a walk over those bytes gives those clauses
--   later              what is left behind the clause at hand is good as well
-- Assumes nothing.
use Prim.Native.Nat.{ℕ, ◌-◌, ◌≤◌, ◌<◌}
use mathlib.Core.Path.{◌≡◌, refl, sym, ap, ◌∙◌}
use mathlib.Core.Path.{subst}
use mathlib.Core.Bool.{true}
use mathlib.Core.List.{List, [], ◌∷◌, ◌++◌}
use native.Mathlib.Omega.{arith}
use lib.Dec.{ltb}
use lib.ListN.{length, take, drop}
use borrow.Author.Tests.{ltb-true}
use Rattle.std.specs.List.{list_all}
use Rattle.std.proofs.Common.{lit<}
use Rattle.answer.specs.Answer.{Answer, answered, refused}
use Rattle.answer.proofs.Tests.{and_left, and_right}
use Rattle.field.specs.Words.{Bytes, word_bytes}
use Rattle.field.specs.Field.{size, after, field_bytes}
use Rattle.field.proofs.Parts.{part_end}
use Rattle.field.proofs.Words.{words_bytes}
use Rattle.meaning.specs.Book.{Clause, Book}
use Rattle.book.specs.Bytes.{GoodClause, GoodClauses, WellFormed, clause_bytes, clauses_bytes, bytes_of}
use Rattle.book.specs.Reading.{clause_of, reading}
use Rattle.book.specs.Walk.{taken, book_of, IsBook, answers, is_accepted, walks, left}
use Rattle.book.specs.Clauses.{meant}
use Rattle.book.specs.declared.accepted.Book.{Book as Found}
use Rattle.book.proofs.Left.{left_short, walks_short, left_step, walks_first}
use Rattle.book.proofs.Written.{Starts, starts, header_after}
use Rattle.book.proofs.Inverse.{Read, reading_is}

pub read : (s : List ℕ) → IsBook s → Read s (book_of s)
read s is = reading_is s (book_of s) is.bytes is.read

pub well_formed : (s : List ℕ) → IsBook s → WellFormed (book_of s)
well_formed s is = (read s is).good

pub record Walk (v g : ℕ) (r : List ℕ) (cs : List Clause) : Type 0 where
  pub bytes : clauses_bytes cs ≡ r
  pub good : GoodClauses v g cs

pub record Begun (s : List ℕ) : Type 0 where
  pub long : 7 ≤ length s
  pub short : length s ≤ 65535
  pub most : length (book_of s).clauses ≤ 2048
  pub walk : Walk (book_of s).variables (book_of s).groups (take (length s - 7) (drop 7 s)) (book_of s).clauses

header_long : (b : Book) → 7 ≤ length (bytes_of b)
unfolding bytes_of field_bytes word_bytes
header_long b = omega arith

header_drop : (b : Book) → drop 7 (bytes_of b) ≡ clauses_bytes b.clauses
unfolding bytes_of
header_drop b = header_after b.variables b.groups (clauses_bytes b.clauses)

pub begun : (s : List ℕ) → IsBook s → Begun s
begun s is =
    let r = read s is in
    record {
      long = omega (arith, header_long (book_of s), ap length r.bytes);
      short = r.short;
      most = r.good.clauses;
      walk = record {
        bytes = sym (header_drop (book_of s)) ∙ ap (drop 7) r.bytes ∙ sym (part_end s 7);
        good = r.good.good;
      };
    }

-- a clause that stands first in r, and what follows it
pub record Stands (r : List ℕ) (c : Clause) (cs : List Clause) : Type 0 where
  pub long : 7 ≤ size r
  pub least : 7 ≤ length r
  pub fits : size r ≤ length r
  pub is : clause_of r ≡ c
  pub next : clauses_bytes cs ≡ after r

starts_at : (c : Clause) (rest r : List ℕ) → length c.groups ≡ 1 → clause_bytes c ++ rest ≡ r → Starts c rest r
starts_at c rest r one e = simp (← e) (starts c rest one)

pub stands : (c : Clause) (cs : List Clause) (r : List ℕ) → length c.groups ≡ 1 → clauses_bytes (c ∷ cs) ≡ r → Stands r c cs
unfolding clauses_bytes
stands c cs r one e =
    let s : Starts c (clauses_bytes cs) r = starts_at c (clauses_bytes cs) r one e in
    record {
      long = omega (arith, s.long);
      least = omega (arith, s.fits, s.long);
      fits = s.fits;
      is = simp (s.groups, s.head, s.part, words_bytes c.body);
      next = sym s.follows;
    }

end_short : length (clauses_bytes []) < 7
unfolding clauses_bytes field_bytes
end_short = lit< tt

pub left_walk : (v g : ℕ) (r : List ℕ) (cs : List Clause) → Walk v g r cs → (left (length r) r ≡ cs) × (walks (length r) r ≡ true)
left_walk v g r [] w =
    let short : length r < 7 = subst (λ (t : List ℕ). length t < 7) w.bytes end_short in
    (left_short (length r) r short, walks_short (length r) r short)
left_walk v g r (c ∷ cs) w =
    let s = stands c cs r w.good.0.one w.bytes in
    let t = left_walk v g (after r) cs (record { bytes = s.next; good = w.good.1 }) in
    (left_step r s.least ∙ simp (s.is, t.0), walks_first r s.least s.long s.fits t.1)

pub later : (v g : ℕ) (cs : List Clause) (c : Clause) (rest : List Clause) → GoodClauses v g cs → cs ≡ c ∷ rest → GoodClause v g c × GoodClauses v g rest
later v g cs c rest good e = subst (GoodClauses v g) e good

-- what the invariant of a book says
pub is_book : (s : List ℕ) → is_accepted s ≡ true → IsBook s
unfolding is_accepted answers taken book_of
is_book s e =
    let t = list_all (λ (a : ℕ). ltb a 256) s in
    record { bytes = bytes s (and_left t (answers (reading s)) e); read = answered_by (reading s) (and_right t (answers (reading s)) e) }
  where
    bytes : (s : List ℕ) → list_all (λ (a : ℕ). ltb a 256) s ≡ true → Bytes s
    bytes [] e = tt
    bytes (a ∷ s) e = (ltb-true a 256 (and_left _ _ e), bytes s (and_right _ _ e))

    answered_by : (a : Answer Book) → answers a ≡ true → a ≡ answered (taken a)
    answered_by (answered b) e = refl
    answered_by (refused n at) e = let z : ◌≡◌ {A = ℕ} 0 1 = cc in absurd (omega arith)

pub found : (b : Found) → WellFormed (meant b)
found b = well_formed b.bytes.now (is_book b.bytes.now b.accepted)

pub reads_as : (b : Found) (s : List ℕ) → b.bytes.now ≡ s → reading s ≡ answered (meant b)
reads_as b s same = subst (λ (t : List ℕ). reading t ≡ answered (meant b)) same (is_book b.bytes.now b.accepted).read
