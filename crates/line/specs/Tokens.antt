-- Where the lines of a text and the tokens of a line lie, and the numbers that tokens spell.
--   run_of cuts t       how many bytes stand before the first at which t is cut
--   gap_of l            how many blanks and tabs a line begins with
--   next_of l           the first token of a line, by where it begins and ends, if it has one
--   most_spelt, cap n   a number as far as two bytes hold it: what is above 65,535, which is beyond every limit, counts as that
--   spelt w             the number that a token of digits spells, as far as two bytes hold it; nothing for another token
-- Assumes nothing: these are definitions.
use Rattle.std.specs.Prelude.{ℕ, suc, ◌+◌, min, List, [], ◌∷◌, Bool, cond, Option, None, Some, length, drop, eqb}
use Rattle.text.specs.Lines.{separates, digits, value}
use Rattle.line.specs.declared.Token.{Token}

unfoldable pub run_of : (ℕ → Bool) → List ℕ → ℕ
run_of cuts [] = 0
run_of cuts (a ∷ t) = cond (cuts a) 0 (suc (run_of cuts t))

unfoldable pub gap_of : List ℕ → ℕ
gap_of [] = 0
gap_of (a ∷ l) = cond (separates a) (suc (gap_of l)) 0

unfoldable pub next_of : List ℕ → Option Token
next_of l =
    cond (eqb (gap_of l) (length l)) None
    (Some (record { start = gap_of l; end = gap_of l + run_of separates (drop (gap_of l) l) }))

abbrev pub most_spelt : ℕ
most_spelt = 65535

abbrev pub cap : ℕ → ℕ
cap n = min n most_spelt

unfoldable pub spelt : List ℕ → Option ℕ
spelt w = cond (digits w) (Some (cap (value w))) None
