-- What forcing leaves in the working space.
--   Forcing s x w w'    the front of w', one word a variable, marks the variables that the choice x forces in the book s; the words from 8,192 on are
--                       those of w
-- Assumes nothing: this is a definition.
use Rattle.std.specs.Prelude.{ℕ, ◌≡◌, List, length, take, drop}
use Rattle.meaning.specs.Forced.{forced_in}
use Rattle.book.specs.Walk.{book_of}

pub record Forcing (s : List ℕ) (x : ℕ) (w w' : List ℕ) : Type 0 where
  pub marks : take (book_of s).variables w' ≡ forced_in (book_of s) x
  pub rest : drop 8192 w' ≡ drop 8192 w
  pub long : length w' ≡ length w
