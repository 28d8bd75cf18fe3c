-- What code asks of a choice.
--   width           the most groups that a choice can have
--   Highest x g     g is the highest group of x, counted from 0
-- Assumes nothing: these are definitions.
use Rattle.std.specs.Prelude.{ℕ, ◌<◌, ◌≡◌}
use Rattle.meaning.specs.Choice.{digit}

abbrev pub width : ℕ
width = 32

pub record Highest (x g : ℕ) : Type 0 where
  pub in_it : digit x g ≡ 1
  pub none_above : (j : ℕ) → g < j → digit x j ≡ 0
