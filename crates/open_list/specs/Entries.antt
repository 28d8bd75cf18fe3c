-- The list of open records, in 16-bit words: for each group a bound, then how many records are listed, then their numbers.
--   head                where the list starts
--   entry_at ws k        the record at place k of the list, counted from 0
--   capped ws n         n, or as many entries as there is room for
--   bound_of ws g        how many of the records, from the front, group g bounds
--   listed_of ws         how many records are listed
--   Among n ws i        record i is one of the first n
--   Beside n p ws i     the same, at another place than p
--   Keeps n ws ws'      as long as before, and what was among the first records, n or more, still is
--   exchanged k m ws    the records at two places exchanged
-- Assumes nothing: these are definitions.
use Rattle.std.specs.Prelude.{ℕ, ◌+◌, ◌-◌, ◌≤◌, ◌<◌, min, ◌≡◌, ◌≢◌, List, length, get_or, set}

abbrev pub head : ℕ
head = 33

abbrev pub entry_at : List ℕ → ℕ → ℕ
entry_at ws k = get_or ws (head + k) 0

abbrev pub capped : List ℕ → ℕ → ℕ
capped ws n = min n (length ws - head)

abbrev pub bound_of : List ℕ → ℕ → ℕ
bound_of ws g = capped ws (get_or ws g 0)

abbrev pub listed_of : List ℕ → ℕ
listed_of ws = capped ws (get_or ws 32 0)

abbrev pub Among : ℕ → List ℕ → ℕ → Type 0
Among n ws i = (k : ℕ) × (k < n) × (entry_at ws k ≡ i)

abbrev pub Beside : ℕ → ℕ → List ℕ → ℕ → Type 0
Beside n p ws i = (k : ℕ) × (k < n) × (k ≢ p) × (entry_at ws k ≡ i)

pub record Keeps (n : ℕ) (ws ws' : List ℕ) : Type 0 where
  pub long : length ws' ≡ length ws
  pub all : (m i : ℕ) → n ≤ m → Among m ws i → Among m ws' i

unfoldable pub exchanged : ℕ → ℕ → List ℕ → List ℕ
exchanged k m ws = set (set ws (head + k) (entry_at ws m)) (head + m) (entry_at ws k)
