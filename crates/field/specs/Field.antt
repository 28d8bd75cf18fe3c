-- A tagged field: a tag of one byte, a length of two, and as many bytes of value.
-- `r` is always some bytes in which a field is to stand first.
--   tag r, len r         its tag, and the length that it states
--   size r               how many bytes it takes
--   short r              fewer than 3 bytes remain, or its length runs past the end
--   after r              the bytes that follow it
--   field_bytes t value   a field as it is written
-- Assumes nothing: these are definitions.
use Rattle.std.specs.Prelude.{ℕ, ◌+◌, ◌/◌, ◌%◌, List, ◌∷◌, Bool, ◌||◌, length, get_or, drop, ltb}
use Rattle.field.specs.Words.{word_at}

abbrev pub tag : List ℕ → ℕ
tag r = get_or r 0 0

abbrev pub len : List ℕ → ℕ
len r = word_at r 1

abbrev pub size : List ℕ → ℕ
size r = 3 + len r

unfoldable pub short : List ℕ → Bool
short r = ltb (length r) 3 || ltb (length r) (size r)

abbrev pub after : List ℕ → List ℕ
after r = drop (size r) r

unfoldable pub field_bytes : ℕ → List ℕ → List ℕ
field_bytes t value = t ∷ (length value / 256 ∷ (length value % 256 ∷ value))
