-- Lent space before a call, and the checksum of it after the call.
--   start_at k      the byte that stands at place k before a call
--   word_at k       the word that stands at place k before a call: never 0, so that a word that was not cleared shows
--   filled start n      a space of n elements before a call, of which `start k` stands at place k
--   one_more s e    the checksum s with one element more
--   checksum value es   the checksum of a space of the elements es, where an element e counts as `value e`; it begins at 1
-- Assumes nothing: these are definitions.
use Rattle.std.specs.Prelude.{ℕ, ◌+◌, ◌*◌, ◌%◌, List, map, fold}
use Rattle.std.specs.List.{range_with_len}

abbrev pub start_at : ℕ → ℕ
start_at k = (k % 251 * 7 + 3) % 251

abbrev pub word_at : ℕ → ℕ
word_at k = (k % 65535 * 7919 + 65534) % 65535 + 1

abbrev pub filled : {A : Type 0} → (ℕ → A) → ℕ → List A
filled start n = map start (range_with_len 0 n)

abbrev pub one_more : ℕ → ℕ → ℕ
one_more s e = (s % 65521 * 31 + e % 4294967296) % 65521

abbrev pub checksum : {A : Type 0} → (A → ℕ) → List A → ℕ
checksum value es = fold (λ s e. one_more s (value e)) 1 es
