-- Numbers of two bytes, the high byte first.
--   Bytes s             each number of s is a byte
--   word high low       the number that two bytes spell
--   word_at s at         the number that stands at `at` in s
--   words s             the numbers that s spells; a last odd byte spells none
--   word_bytes ws        the bytes of some numbers
--   within low high ws  each number is from low to high
--   rising b ws         each number is above the one before it, and the first above b
-- Assumes nothing: these are definitions.
use Rattle.std.specs.Prelude.{ℕ, ◌+◌, ◌*◌, ◌/◌, ◌%◌, ◌<◌, List, [], ◌∷◌, Bool, true, ◌&&◌, get_or, leb, ltb}

abbrev pub Bytes : List ℕ → Type 0
Bytes [] = Unit {0}
Bytes (a ∷ s) = (a < 256) × Bytes s

abbrev pub word : ℕ → ℕ → ℕ
word high low = high * 256 + low

abbrev pub word_at : List ℕ → ℕ → ℕ
word_at s at = word (get_or s at 0) (get_or s (at + 1) 0)

unfoldable pub words : List ℕ → List ℕ
words [] = []
words (a ∷ []) = []
words (a ∷ (b ∷ s)) = word a b ∷ words s

unfoldable pub word_bytes : List ℕ → List ℕ
word_bytes [] = []
word_bytes (w ∷ ws) = w / 256 ∷ (w % 256 ∷ word_bytes ws)

unfoldable pub within : ℕ → ℕ → List ℕ → Bool
within low high [] = true
within low high (w ∷ ws) = leb low w && leb w high && within low high ws

unfoldable pub rising : ℕ → List ℕ → Bool
rising b [] = true
rising b (w ∷ ws) = ltb b w && rising w ws
