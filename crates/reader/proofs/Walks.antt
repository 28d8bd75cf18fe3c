-- The plain form of an accepted book, clause by clause.
--   clauses_joined      the clauses are one after the other
--   part_numbers        how many numbers a clause is, by the bytes of its parts
--   clauses_most        the clauses of a book are at most 71,680 numbers
-- Assumes nothing.
use Prim.Native.Nat.{ℕ, zero, suc, ◌+◌, ◌*◌, ◌/◌, ◌≤◌}
use mathlib.Core.Path.{◌≡◌, refl, ap, ◌∙◌}
use mathlib.Core.List.{List, [], ◌∷◌}
use native.Mathlib.Omega.{arith}
use lib.ListN.{length, length-append}
use Rattle.field.proofs.Words.{length_words}
use Rattle.meaning.specs.Book.{Clause}
use Rattle.book.specs.Bytes.{GoodClause, GoodClauses}
use Rattle.book.specs.Clauses.{meant, clause_is}
use Rattle.book.specs.declared.accepted.Book.{Book as Found}
use Rattle.book.specs.declared.accepted.Clause.{Clause as Part}
use Rattle.book.proofs.Walk.{found}
use Rattle.book.proofs.Walks.{Joins}
use Rattle.plain.specs.Plain.{head_literal, plain_clause, plain_clauses}
use Rattle.plain.proofs.Given.{clause_numbers}

pub clauses_joined : Joins plain_clause plain_clauses
unfolding plain_clauses
clauses_joined = record { none = refl; more = λ c cs. refl }

-- a clause, by the bytes of its parts
pub part_numbers : (c : Part) → length c.groups.now / 2 + length c.body.now / 2 + length (head_literal c.head) + 1 ≡ length (plain_clause (clause_is c))
part_numbers c = omega (arith, clause_numbers (clause_is c), length_words c.groups.now, length_words c.body.now)

-- at most one number is a head
head_length : (h : ℕ) → length (head_literal h) ≤ 1
unfolding head_literal
head_length zero = omega arith
head_length (suc h) = omega arith

clause_most : (v g : ℕ) (c : Clause) → GoodClause v g c → length (plain_clause c) ≤ 35
clause_most v g c k = omega (arith, clause_numbers c, k.one, k.few, head_length c.head)

good_most : (v g : ℕ) (cs : List Clause) → GoodClauses v g cs → length (plain_clauses cs) ≤ 35 * length cs
good_most v g [] k = omega (arith, ap length clauses_joined.none)
good_most v g (c ∷ cs) k =
    omega (arith, ap length (clauses_joined.more c cs) ∙ length-append (plain_clause c) (plain_clauses cs), clause_most v g c k.0, good_most v g cs k.1)

pub clauses_most : (b : Found) → length (plain_clauses (meant b).clauses) ≤ 71680
clauses_most b = let w = found b in omega (arith, good_most _ _ (meant b).clauses w.good, w.clauses)
