-- What the functions on a clause ask of it, and how they name what they find.
--   Fits n c      each group of c is one that there can be, and each variable of its body is one of n
--   named n       a number that names something; none where it is 0
-- Assumes nothing: these are definitions.
use Rattle.std.specs.Prelude.{ℕ, zero, suc, ◌≡◌, true, Option, None, Some}
use Rattle.field.specs.Words.{within}
use Rattle.meaning.specs.Book.{Clause}
use Rattle.book.specs.Bytes.{most_groups}

pub record Fits (n : ℕ) (c : Clause) : Type 0 where
  pub groups : within 0 most_groups c.groups ≡ true
  pub body : within 1 n c.body ≡ true

abbrev pub named : ℕ → Option ℕ
named zero = None
named (suc n) = Some (suc n)
