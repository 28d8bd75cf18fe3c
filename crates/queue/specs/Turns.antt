-- What the turn of a clause, and the end of a pass, leave in the working space of a book of v variables and m clauses: places and the words from 8,192 on are
-- unchanged.
--   Stepped kept pool v m c w w'        the levels are as the clause c leaves them
--   Carrying g v m w w'         they are carried on after a pass that ended at group g
-- Assumes nothing: these are definitions.
use Rattle.std.specs.Prelude.{ℕ, List}
use Rattle.meaning.specs.Book.{Clause}
use Rattle.levels.specs.Levels.{turn, carried}
use Rattle.lists.specs.Space.{Changes}

abbrev pub Stepped : ℕ → ℕ → ℕ → ℕ → Clause → List ℕ → List ℕ → Type 0
Stepped kept pool v m c w w' = Changes (turn kept pool c) v m w w'

abbrev pub Carrying : ℕ → ℕ → ℕ → List ℕ → List ℕ → Type 0
Carrying g v m w w' = Changes (carried g) v m w w'
