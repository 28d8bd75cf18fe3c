-- What the working space holds, for a book of v variables and m clauses: levels in the words 0 to v - 1, places of clauses in the words v to v + m - 1, and
-- from there on, below 8,192, lists of clauses, of which nothing is asked.
--   Small v m           there are no more variables and clauses than a book can have
--   Room v m w          ... and the space is long enough
--   Listed v m k        the word k is one for lists
--   Beside v m w w'     places and the words from 8,192 on are unchanged
--   Changes g v m w w'  ... and the levels are what g makes of those that were there
--   Aside v m w w'      ... the levels are unchanged too
-- Assumes nothing: these are definitions.
use Rattle.std.specs.Prelude.{ℕ, ◌+◌, ◌≤◌, ◌<◌, ◌≡◌, List, length, get_or, take, drop}
use Rattle.book.specs.Bytes.{most_variables, most_clauses}

pub record Small (v m : ℕ) : Type 0 where
  pub variables : v ≤ most_variables
  pub clauses : m ≤ most_clauses

pub record Room (v m : ℕ) (w : List ℕ) : Type 0 where
  pub small : Small v m
  pub long : 8192 ≤ length w

pub record Listed (v m k : ℕ) : Type 0 where
  pub from : v + m ≤ k
  pub to : k < 8192

pub record Beside (v m : ℕ) (w w' : List ℕ) : Type 0 where
  pub places : (i : ℕ) → i < m → get_or w' (v + i) 0 ≡ get_or w (v + i) 0
  pub rest : drop 8192 w' ≡ drop 8192 w
  pub long : length w' ≡ length w

pub record Changes (g : List ℕ → List ℕ) (v m : ℕ) (w w' : List ℕ) : Type 0 where
  pub levels : take v w' ≡ g (take v w)
  pub beside : Beside v m w w'

abbrev pub Aside : ℕ → ℕ → List ℕ → List ℕ → Type 0
Aside v m w w' = Changes (λ f. f) v m w w'
