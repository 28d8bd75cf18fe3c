-- A choice of groups as a number: group g adds 2 ^ (g - 1). There may be any number of groups.
--   digit x g     1 where group g + 1 is in the choice x, and else 0
--   chosen x g    whether clauses of group g are to hold: the core's always, another group's where the choice has it
--   Inside x y    every group of x is in y
--   Apart x y     no group is in both
--   Meets x y     some group is in both
--   complement n x      the groups, of n, that are not in x
-- Assumes nothing: these are definitions.
use Rattle.std.specs.Prelude.{ℕ, zero, suc, ◌+◌, ◌-◌, ◌/◌, ◌%◌, ◌^◌, ◌≤◌, ◌≡◌, Bool, true, eqb}

unfoldable pub digit : ℕ → ℕ → ℕ
digit x zero = x % 2
digit x (suc g) = digit (x / 2) g

unfoldable pub chosen : ℕ → ℕ → Bool
chosen x zero = true
chosen x (suc g) = eqb (digit x g) 1

abbrev pub Inside : ℕ → ℕ → Type 0
Inside x y = (g : ℕ) → digit x g ≤ digit y g

abbrev pub Apart : ℕ → ℕ → Type 0
Apart x y = (g : ℕ) → digit x g + digit y g ≤ 1

abbrev pub Meets : ℕ → ℕ → Type 0
Meets x y = (g : ℕ) × ((digit x g ≡ 1) × (digit y g ≡ 1))

abbrev pub complement : ℕ → ℕ → ℕ
complement n x = 2 ^ n - 1 - x
