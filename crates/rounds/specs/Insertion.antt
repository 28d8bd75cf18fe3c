-- The smallest inconsistent choice within a seed s, by insertion: from what is kept, the groups of the seed arrive from the lowest on.
--   Stage bad s K k       K is kept, and the groups from 1 to k are still to be sorted out: K has none of them, with those of s it is
--                         inconsistent and within s, and no inconsistent choice within s is a smaller number than K
--   Breaks bad s K k t    of those k groups, t is the first whose arrival makes K inconsistent: 0 where K itself is, more than k where none does
-- Assumes nothing: these are definitions.
use Rattle.std.specs.Prelude.{ℕ, ◌+◌, ◌*◌, ◌%◌, ◌^◌, ◌≤◌, ◌≡◌, Bool, true, leb}
use Rattle.meaning.specs.Choice.{Inside}

pub record Stage (bad : ℕ → Bool) (s K k : ℕ) : Type 0 where
  pub high : ℕ
  pub whole : K ≡ high * 2 ^ k
  pub enough : bad (K + s % 2 ^ k) ≡ true
  pub inside : Inside (K + s % 2 ^ k) s
  pub lower : (z : ℕ) → Inside z s → bad z ≡ true → K ≤ z

abbrev pub Breaks : (ℕ → Bool) → ℕ → ℕ → ℕ → ℕ → Type 0
Breaks bad s K k t = (j : ℕ) → j ≤ k → bad (K + s % 2 ^ j) ≡ leb t j
