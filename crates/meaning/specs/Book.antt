-- A rule book as a value.
--   Clause      the groups that it belongs to, its head (0 for none) and its body, the variables rising
--   clause_from gs h ws      the clause of those
--   Book        how many variables and groups there are, and the clauses, numbered from 1
-- Assumes nothing: these are definitions.
use Rattle.std.specs.Prelude.{ℕ, List}

pub record Clause : Type 0 where
  pub groups : List ℕ
  pub head : ℕ
  pub body : List ℕ

abbrev pub clause_from : List ℕ → ℕ → List ℕ → Clause
clause_from gs h ws = record { groups = gs; head = h; body = ws }

pub record Book : Type 0 where
  pub variables : ℕ
  pub groups : ℕ
  pub clauses : List Clause
