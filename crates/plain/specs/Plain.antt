-- The plain form of a rule book: signed numbers.
--   minus n           -n
--   each sign ns      some numbers, each with a sign
--   naturals gs       numbers as they are
--   literals ws       a body, as negative numbers
--   head_literal h     a head, if any, as a positive number
--   plain_clause c     a clause: its group, its body, its head, and 0
--   plain_clauses cs   one clause after the other
--   plain_of b         a book: its variables, its groups, and each clause
-- Assumes nothing: these are definitions.
use Rattle.std.specs.Prelude.{ℕ, zero, suc, List, [], ◌∷◌, ◌++◌, ℤ, pos, neg_ℤ}
use Rattle.meaning.specs.Book.{Clause, Book}

abbrev pub minus : ℕ → ℤ
minus n = neg_ℤ (pos n)

unfoldable pub each : (ℕ → ℤ) → List ℕ → List ℤ
each sign [] = []
each sign (n ∷ ns) = sign n ∷ each sign ns

abbrev pub naturals : List ℕ → List ℤ
naturals gs = each pos gs

abbrev pub literals : List ℕ → List ℤ
literals ws = each minus ws

unfoldable pub head_literal : ℕ → List ℤ
head_literal zero = []
head_literal (suc h) = pos (suc h) ∷ []

unfoldable pub plain_clause : Clause → List ℤ
plain_clause c = naturals c.groups ++ (literals c.body ++ (head_literal c.head ++ (pos 0 ∷ [])))

unfoldable pub plain_clauses : List Clause → List ℤ
plain_clauses [] = []
plain_clauses (c ∷ cs) = plain_clause c ++ plain_clauses cs

unfoldable pub plain_of : Book → List ℤ
plain_of b = pos b.variables ∷ (pos b.groups ∷ plain_clauses b.clauses)
