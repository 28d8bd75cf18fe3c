-- Laws of numbers of two bytes.
--   bytes_at, byte_at            bytes as a slice has them, both ways
--   bytes_drop, bytes_take       of a part
--   words_none, spelt            what some bytes spell, by their length
--   within_all                   `within` tests each number
--   rising_not, rising_next, rising_none      one turn of a test whether numbers rise
--   climbing_not, climbing_high, climbing_next, climbing_none      ... and whether none is above a limit
--   within_cons, cons_within, rising_cons, cons_rising      a test of a number and of those after it, both ways
--   within_one, one_within       of one number alone
--   within_more                  within wider limits
--   high_byte, low_byte, two_bytes      a number and its two bytes
--   words_two                    one number spelt
--   words_bytes, bytes_words     numbers and their bytes, both ways
--   word_bytes_append             of two runs of numbers
--   length_words, length_word_bytes      how many
-- Assumes nothing.
use Prim.Native.Nat.{ℕ, zero, suc, ◌+◌, ◌-◌, ◌*◌, ◌/◌, ◌%◌, ◌≤◌, ◌<◌}
use mathlib.Core.Path.{◌≡◌, refl, ap, ◌∙◌}
use mathlib.Core.List.{List, [], ◌∷◌, ◌++◌}
use mathlib.Core.Bool.{true, false, ◌&&◌, and-false}
use native.Mathlib.Omega.{arith}
use lib.ListN.{length, get_or, take, drop}
use lib.Seq.{drop-cons}
use lib.Dec.{leb, ltb}
use borrow.Author.Tests.{lt-ltb, le-ltb, le-leb, lt-leb, leb-true, ltb-true}
use Rattle.std.specs.List.{list_all}
use Rattle.answer.proofs.Tests.{and_left, and_right}
use Rattle.field.specs.Words.{Bytes, word, word_at, words, word_bytes, within, rising}
use Rattle.field.proofs.Parts.{part_end}

pub bytes_at : (s : List ℕ) → ((i : ℕ) → get_or s i 0 < 256) → Bytes s
bytes_at [] h = tt
bytes_at (a ∷ s) h = (h 0, bytes_at s (λ i. h (suc i)))

pub byte_at : (s : List ℕ) → Bytes s → (i : ℕ) → get_or s i 0 < 256
byte_at [] h i = omega arith
byte_at (a ∷ s) h zero = h.0
byte_at (a ∷ s) h (suc i) = byte_at s h.1 i

pub bytes_drop : (n : ℕ) (s : List ℕ) → Bytes s → Bytes (drop n s)
bytes_drop zero s h = h
bytes_drop (suc n) [] h = tt
bytes_drop (suc n) (a ∷ s) h = bytes_drop n s h.1

pub bytes_take : (n : ℕ) (s : List ℕ) → Bytes s → Bytes (take n s)
bytes_take zero s h = tt
bytes_take (suc n) [] h = tt
bytes_take (suc n) (a ∷ s) h = (h.0, bytes_take n s h.1)

pub words_none : (t : List ℕ) → length t < 2 → words t ≡ []
unfolding words
words_none [] h = refl
words_none (a ∷ []) h = refl
words_none (a ∷ (b ∷ s)) h = absurd (omega arith)

words_more : (t : List ℕ) → 2 ≤ length t → words t ≡ word_at t 0 ∷ words (drop 2 t)
unfolding words
words_more [] h = absurd (omega arith)
words_more (a ∷ []) h = absurd (omega arith)
words_more (a ∷ (b ∷ s)) h = refl

pub within_all : (low high : ℕ) (ws : List ℕ) → within low high ws ≡ list_all (λ w. leb low w && leb w high) ws
unfolding within
within_all low high [] = refl
within_all low high (w ∷ ws) = ap (λ b. leb low w && leb w high && b) (within_all low high ws)

-- w is the first number of t
module _ (t : List ℕ) (w : ℕ) (long : 2 ≤ length t) (is : w ≡ word_at t 0) where
  pub spelt : words t ≡ w ∷ words (take (length t - 2) (drop 2 t))
  spelt = simp (words_more t long, part_end, is)

-- w is the first of some numbers
module _ (b w : ℕ) (ws left : List ℕ) (is : left ≡ w ∷ ws) where
  pub rising_not : w ≤ b → rising b left ≡ false
  unfolding rising
  rising_not h = simp (is, le-ltb b w h)

  pub rising_next : b < w → rising b left ≡ rising w ws
  unfolding rising
  rising_next h = simp (is, lt-ltb b w h)

  pub climbing_not : (v : ℕ) → w ≤ b → (within 1 v left && rising b left) ≡ false
  climbing_not v h = ap (λ c. within 1 v left && c) (rising_not h) ∙ and-false (within 1 v left)

  pub climbing_high : (v : ℕ) → v < w → (within 1 v left && rising b left) ≡ false
  unfolding within
  climbing_high v h = simp (is, lt-leb w v h, and-false)

  pub climbing_next : (v : ℕ) → b < w → w ≤ v → (within 1 v left && rising b left) ≡ (within 1 v ws && rising w ws)
  unfolding within
  climbing_next v h k = ap (λ c. within 1 v left && c) (rising_next h) ∙ simp (is, le-leb 1 w (omega (arith, h)), le-leb w v k)

pub rising_none : (b : ℕ) (left : List ℕ) → left ≡ [] → rising b left ≡ true
unfolding rising
rising_none b left e = simp e

pub climbing_none : (v b : ℕ) (left : List ℕ) → left ≡ [] → (within 1 v left && rising b left) ≡ true
unfolding within rising
climbing_none v b left e = simp e

-- a number's bytes spell it
pub two_bytes : (w : ℕ) → word (w / 256) (w % 256) ≡ w
two_bytes w = omega arith

pub high_byte : (a b : ℕ) → b < 256 → word a b / 256 ≡ a
high_byte a b h = omega arith

pub low_byte : (a b : ℕ) → b < 256 → word a b % 256 ≡ b
low_byte a b h = omega arith

pub words_bytes : (ws : List ℕ) → words (word_bytes ws) ≡ ws
unfolding words word_bytes
words_bytes [] = refl
words_bytes (w ∷ ws) = simp (two_bytes w, words_bytes ws)

pub bytes_words : (s : List ℕ) → Bytes s → length s % 2 ≡ 0 → word_bytes (words s) ≡ s
unfolding words word_bytes
bytes_words [] h e = refl
bytes_words (a ∷ []) h e = absurd (omega arith)
bytes_words (a ∷ (b ∷ s)) h e =
    let even : length s % 2 ≡ 0 = omega arith in
    simp (high_byte a b h.1.0, low_byte a b h.1.0, bytes_words s h.1.1 even)

pub length_words : (s : List ℕ) → length (words s) ≡ length s / 2
unfolding words
length_words [] = refl
length_words (a ∷ []) = refl
length_words (a ∷ (b ∷ s)) = let h = length_words s in omega arith

pub length_word_bytes : (ws : List ℕ) → length (word_bytes ws) ≡ 2 * length ws
unfolding word_bytes
length_word_bytes [] = refl
length_word_bytes (w ∷ ws) = let h = length_word_bytes ws in omega arith

pub word_bytes_append : (us ws : List ℕ) → word_bytes (us ++ ws) ≡ word_bytes us ++ word_bytes ws
unfolding word_bytes
word_bytes_append [] ws = refl
word_bytes_append (u ∷ us) ws = simp (word_bytes_append us ws)

-- the first of some numbers, and the others
pub within_cons : (low high w : ℕ) (ws : List ℕ) → within low high (w ∷ ws) ≡ true → (low ≤ w) × (w ≤ high) × (within low high ws ≡ true)
unfolding within
within_cons low high w ws e =
    let a = and_left (leb low w && leb w high) (within low high ws) e in
    (leb-true low w (and_left (leb low w) (leb w high) a), leb-true w high (and_right (leb low w) (leb w high) a), and_right (leb low w && leb w high) (within low high ws) e)

pub cons_within : (low high w : ℕ) (ws : List ℕ) → low ≤ w → w ≤ high → within low high ws ≡ true → within low high (w ∷ ws) ≡ true
unfolding within
cons_within low high w ws l h e = simp (le-leb low w l, le-leb w high h, e)

-- what is within limits is within wider ones
pub within_more : (low a b : ℕ) (ws : List ℕ) → a ≤ b → within low a ws ≡ true → within low b ws ≡ true
unfolding within
within_more low a b [] l e = refl
within_more low a b (w ∷ ws) l e = let k = within_cons low a w ws e in cons_within low b w ws k.0 (omega (arith, k.1)) (within_more low a b ws l k.2)

pub rising_cons : (b w : ℕ) (ws : List ℕ) → rising b (w ∷ ws) ≡ true → (b < w) × (rising w ws ≡ true)
unfolding rising
rising_cons b w ws e = (ltb-true b w (and_left (ltb b w) (rising w ws) e), and_right (ltb b w) (rising w ws) e)

pub cons_rising : (b w : ℕ) (ws : List ℕ) → b < w → rising w ws ≡ true → rising b (w ∷ ws) ≡ true
unfolding rising
cons_rising b w ws h e = simp (lt-ltb b w h, e)

pub within_one : (low high w : ℕ) → within low high (w ∷ []) ≡ true → w ≤ high
within_one low high w e = (within_cons low high w [] e).1

pub one_within : (low high w : ℕ) → low ≤ w → w ≤ high → within low high (w ∷ []) ≡ true
unfolding within
one_within low high w l h = cons_within low high w [] l h refl

-- two bytes in the middle are one number
pub words_two : (r : List ℕ) (at : ℕ) → at + 2 ≤ length r → words (take 2 (drop at r)) ≡ word_at r at ∷ []
unfolding words
words_two r at h = simp (drop-cons r at 0 (omega arith), drop-cons r (suc at) 0 (omega arith)) (pair (get_or r at 0) (get_or r (suc at) 0) (drop (suc (suc at)) r) ∙ ap (λ (k : ℕ). word (get_or r at 0) (get_or r k 0) ∷ []) (let e : suc at ≡ at + 1 = omega arith in e))
  where
    pair : (a b : ℕ) (t : List ℕ) → words (take 2 (a ∷ (b ∷ t))) ≡ word a b ∷ []
    pair a b t = refl
