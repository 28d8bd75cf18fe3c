-- A clause at its place in the book.
--   place_of          a place that the table has
--   place_inside      it is inside the book
--   place_walk        a walk can go on from it
--   Here, here        the clause that stands there
--   here_next         the place of the next one
--   here_first        it is the first of those that are left there
--   here_fits         it is as the functions on clauses ask
--   laid_place, laid_here      a clause whose place is told by the word k of a space with a table
-- Assumes nothing.
use Prim.Native.Nat.{ℕ, zero, suc, ◌+◌, ◌-◌, ◌≤◌, ◌<◌}
use mathlib.Core.Path.{◌≡◌, refl, sym, ap, ◌∙◌, subst}
use mathlib.Core.List.{List, [], ◌∷◌}
use native.Mathlib.Omega.{arith}
use lib.ListN.{length, get_or, take, drop, length-append, length-drop}
use lib.Seq.{drop-drop}
use Rattle.field.specs.Field.{size, field_bytes}
use Rattle.field.proofs.Parts.{part_end}
use Rattle.meaning.specs.Book.{Clause}
use Rattle.book.specs.Bytes.{GoodClause, GoodClauses, clause_bytes, clauses_bytes}
use Rattle.book.specs.Reading.{clause_of}
use Rattle.book.specs.Walk.{book_of, IsBook}
use Rattle.book.specs.declared.accepted.Book.{Book}
use Rattle.book.proofs.Walk.{well_formed, is_book, later, Stands, stands, Walk}
use Rattle.marks.specs.Fits.{Fits}
use Rattle.marks.proofs.Walks.{good_fits}
use Rattle.table.specs.Table.{Sized, Placed, Prepared, Laid}

-- there is always the end, so a place is not past it
clauses_some : (cs : List Clause) → 1 ≤ length (clauses_bytes cs)
unfolding clauses_bytes field_bytes
clauses_some [] = omega arith
clauses_some (c ∷ cs) = omega (arith, length-append (clause_bytes c) (clauses_bytes cs), clauses_some cs)

good_drop : (v g : ℕ) (cs : List Clause) (i : ℕ) → GoodClauses v g cs → GoodClauses v g (drop i cs)
good_drop v g cs zero G = G
good_drop v g [] (suc i) G = G
good_drop v g (c ∷ cs) (suc i) G = good_drop v g cs i G.1

some_at : (cs : List Clause) (i : ℕ) → i < length cs → (c : Clause) × (drop i cs ≡ c ∷ drop (suc i) cs)
some_at [] i h = absurd (omega arith)
some_at (c ∷ cs) zero h = (c, refl)
some_at (c ∷ cs) (suc i) h = some_at cs i (omega arith)

pub place_of : (s : List ℕ) (v m : ℕ) → Sized s v m → (kept pool : ℕ) (w : List ℕ) → Prepared s kept pool w → (i : ℕ) → i < m → Placed s (get_or w (v + i) 0) i
place_of s v m S kept pool w R i l = subst (λ (k : ℕ). Placed s (get_or w (k + i) 0) i) (sym S.variables) (R.places i (omega (arith, S.clauses)))

pub place_inside : (s : List ℕ) (at i : ℕ) → Placed s at i → at ≤ length s
place_inside s at i P = omega (arith, clauses_some (drop i (book_of s).clauses), ap length P, length-drop at s)

pub place_walk : (s : List ℕ) → IsBook s → (at i : ℕ) → Placed s at i
    → Walk (book_of s).variables (book_of s).groups (take (length s - at) (drop at s)) (drop i (book_of s).clauses)
place_walk s is at i P =
    record {
      bytes = P ∙ sym (part_end s at);
      good = good_drop (book_of s).variables (book_of s).groups (book_of s).clauses i (well_formed s is).good;
    }

-- the clause of number i stands at `at`
pub record Here (s : List ℕ) (at i : ℕ) : Type 0 where
  pub clause : Clause
  pub first : drop i (book_of s).clauses ≡ clause ∷ drop (i + 1) (book_of s).clauses
  pub good : GoodClause (book_of s).variables (book_of s).groups clause
  pub stands : Stands (take (length s - at) (drop at s)) clause (drop (i + 1) (book_of s).clauses)

pub here : (s : List ℕ) → IsBook s → (at i : ℕ) → i < length (book_of s).clauses → Placed s at i → Here s at i
here s is at i h P =
    let b = book_of s in
    let one : suc i ≡ i + 1 = omega arith in
    let k = some_at b.clauses i h in
    let first : drop i b.clauses ≡ k.0 ∷ drop (i + 1) b.clauses = k.1 ∙ ap (λ (n : ℕ). k.0 ∷ drop n b.clauses) one in
    let good = (later b.variables b.groups _ _ _ (good_drop b.variables b.groups b.clauses i (well_formed s is).good) first).0 in
    record { clause = k.0; first = first; good = good; stands = stands _ _ _ good.one (ap clauses_bytes (sym first) ∙ P ∙ sym (part_end s at)) }

module _ (s : List ℕ) (at i : ℕ) (H : Here s at i) where
  abbrev r : List ℕ
  r = take (length s - at) (drop at s)

  pub here_next : (k : ℕ) → k ≡ size r → Placed s (at + k) (i + 1)
  here_next k e = H.stands.next ∙ ap (drop (size r)) (part_end s at) ∙ drop-drop (size r) at s ∙ ap (λ (n : ℕ). drop (at + n) s) (sym e)

  pub here_first : (c : Clause) → c ≡ clause_of r → drop i (book_of s).clauses ≡ c ∷ drop (i + 1) (book_of s).clauses
  here_first c p = H.first ∙ ap (λ (d : Clause). d ∷ drop (i + 1) (book_of s).clauses) (sym (p ∙ H.stands.is))

  -- as the functions on clauses ask, in a book of v variables
  pub here_fits : IsBook s → (v : ℕ) → v ≡ (book_of s).variables → (c : Clause) → c ≡ clause_of r → Fits v c × (c.head ≤ v)
  here_fits is v e c p = let P : Clause → Type 0 = λ z. Fits v z × (z.head ≤ v) in subst P (sym (p ∙ H.stands.is)) (good_fits (book_of s) v H.clause (well_formed s is) e H.good)

module _ (b : Book) (w : List ℕ) (i k : ℕ) (L : Laid b.bytes.now b.variables b.clauses w) (more : i < b.clauses) (entry : k ≡ b.variables + i) where
  pub laid_place : Placed b.bytes.now (get_or w k 0) i
  laid_place = rw entry (L.places i more)

  pub laid_here : Here b.bytes.now (get_or w k 0) i
  laid_here = here b.bytes.now (is_book b.bytes.now b.accepted) (get_or w k 0) i (omega (arith, more, b.clauses_are)) laid_place
