-- The numbers of a part, one after the other.
--   words_left w      the numbers that are left
-- Assumes nothing: this is a definition.
use Rattle.std.specs.Prelude.{ℕ, List}
use Rattle.field.specs.Words.{words}
use Rattle.field.specs.declared.Numbers.{Numbers}

abbrev pub words_left : Numbers → List ℕ
words_left w = words w.part.now
