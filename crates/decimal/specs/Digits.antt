-- Numbers in decimal digits, in bytes.
--   digits_in f n       the decimal digits of n without leading zeros, in so many steps at most
--   number n           the decimal digits of n
--   after n            a blank and the digits of n
--   line word rest     a word, what follows it, and a line feed
-- Assumes nothing: these are definitions.
use Rattle.std.specs.Prelude.{ℕ, zero, suc, ◌+◌, ◌/◌, ◌%◌, List, [], ◌∷◌, ◌++◌, cond, ltb}

unfoldable pub digits_in : ℕ → ℕ → List ℕ
digits_in zero n = []
digits_in (suc f) n = cond (ltb n 10) ((48 + n) ∷ []) (digits_in f (n / 10) ++ ((48 + n % 10) ∷ []))

abbrev pub number : ℕ → List ℕ
number n = digits_in (suc n) n

abbrev pub after : ℕ → List ℕ
after n = 32 ∷ number n

unfoldable pub line : List ℕ → List ℕ → List ℕ
line word rest = word ++ (rest ++ (10 ∷ []))
