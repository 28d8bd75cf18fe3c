-- Laws of choices as sets of groups, for any number of groups.
--   digit_in                 a group of a number below 2 ^ n is one of n
--   lt_pow, pow_room, pow_half      powers of two: larger than their exponent; one that leaves room; its two halves
--   inside_le, inside_refl, inside_trans, inside_antisym      parts: smaller numbers, and an order
--   digits_same              a choice is told by its groups
--   add_same, add_other, add_lt, inside_add, add_inside       a group more: its digit, the others, its bound, as parts
--   pow_le, less_same, less_other, less_inside, inside_less   a group less, likewise
--   complement_lt, complement_twice, digit_complement, complement_inside      the complement
--   back_lt                  a group of x given back to its complement
--   apart_inside, inside_apart      a set apart from another is inside its complement
--   digit_both, digit_either, and_inside, and_apart      what code tests: `x & y`, `x | y`
--   digit_low, digit_above, inside_low, block_inside, base_inside      numbers of a high part and k low digits
--   mod_low, mod_inside, mod_more, low_again      the low digits of a number, and theirs
--   digit_over, over_step, over_lt, over_le, over_less      the digits above the first k: one more of them, and what they say of the order
--   digit_sum                the groups of two choices that are apart, together
--   lt_or_ge, inside_or, meets_or, not_both      what is not so has a witness
--   part_whole, none_inside, no_group      a part that lacks no group is the whole; the empty choice
--   shl_bit, digit_bit, digit_off      what code computes: `1 << g`, `s / p % 2`
--   digit_pow, digit_pow_other      the choice of one group
-- Assumes nothing.
use mathlib.Core.Path.{◌≡◌, sym, ap, ap₂, ◌∙◌, subst}
use mathlib.Core.Logic.{◌↔◌, ◌⊎◌, inl, inr, ◌≢◌}
use Prim.Native.Nat.{ℕ, zero, suc, ◌+◌, ◌-◌, ◌*◌, ◌/◌, ◌%◌, ◌^◌, ◌≤◌, ◌<◌, min, max}
use native.Mathlib.Nat.{div-div-eq-div-mul, suc-mul, le-div_iff_mul-le, div-mul-le_self, pow-succ', zero-add, suc-add, mod-lt, mod-eq_of_lt}
use native.Mathlib.Omega.{arith}
use native.Mathlib.Decide.{ℕ_discrete, dec_lt}
use lib.Bits.{bit_and, bit_or, and_step, or_step, block_half, block_odd}
use lib.Pow.{pow_pos, pow-lt, split, mod-mod-pow}
use lib.Arith.{mod-mul}
use Rattle.meaning.specs.Choice.{digit, Inside, Apart, Meets, complement}
use Rattle.meaning.proofs.Choices.{digit_lt, digit_of, digit_none, digit_high}

pub digit_in : (n x g : ℕ) → x < 2 ^ n → digit x g ≡ 1 → g < n
unfolding digit
digit_in zero x g h d = let e : digit x g ≡ 0 = digit_high zero x g h (omega arith) in omega arith
digit_in (suc n) x zero h d = omega arith
digit_in (suc n) x (suc g) h d = omega (arith, digit_in n (x / 2) g (omega arith) d)

-- every number has fewer digits than it says
pub lt_pow : (x : ℕ) → x < 2 ^ x
lt_pow zero = omega arith
lt_pow (suc x) = omega (arith, lt_pow x)

inside_le_in : (n x y : ℕ) → x < 2 ^ n → Inside x y → x ≤ y
unfolding digit
inside_le_in zero x y h s = omega arith
inside_le_in (suc n) x y h s = omega (arith, inside_le_in n (x / 2) (y / 2) (omega arith) (λ g. s (suc g)), s 0)

pub inside_le : (x y : ℕ) → Inside x y → x ≤ y
inside_le x y s = inside_le_in x x y (lt_pow x) s

pub inside_refl : (x : ℕ) → Inside x x
inside_refl x g = omega arith

pub inside_trans : (x y z : ℕ) → Inside x y → Inside y z → Inside x z
inside_trans x y z s t g = omega (arith, s g, t g)

pub inside_antisym : (x y : ℕ) → Inside x y → Inside y x → x ≡ y
inside_antisym x y s t = omega (arith, inside_le x y s, inside_le y x t)

-- a choice is told by its groups
pub digits_same : (x y : ℕ) → ((g : ℕ) → digit x g ≡ digit y g) → x ≡ y
digits_same x y e = inside_antisym x y (λ g. omega (arith, e g)) (λ g. omega (arith, e g))

-- ---- a group more, a group less
pub add_same : (x g : ℕ) → digit x g ≡ 0 → digit (x + 2 ^ g) g ≡ 1
unfolding digit
add_same x zero d = omega arith
add_same x (suc g) d = rw (let e : (x + 2 ^ suc g) / 2 ≡ x / 2 + 2 ^ g = omega arith in e) (add_same (x / 2) g d)

pub add_other : (x g k : ℕ) → digit x g ≡ 0 → k ≢ g → digit (x + 2 ^ g) k ≡ digit x k
unfolding digit
add_other x zero zero d o = omega arith
add_other x zero (suc k) d o = ap (λ (y : ℕ). digit y k) (omega arith)
add_other x (suc g) zero d o = omega arith
add_other x (suc g) (suc k) d o = rw (let e : (x + 2 ^ suc g) / 2 ≡ x / 2 + 2 ^ g = omega arith in e) (add_other (x / 2) g k d (λ e. o (ap suc e)))

pub pow_le : (x g : ℕ) → digit x g ≡ 1 → 2 ^ g ≤ x
unfolding digit
pow_le x zero d = omega arith
pow_le x (suc g) d = omega (arith, pow_le (x / 2) g d)

pub less_same : (x g : ℕ) → digit x g ≡ 1 → digit (x - 2 ^ g) g ≡ 0
unfolding digit
less_same x zero d = omega arith
less_same x (suc g) d = rw (let e : (x - 2 ^ suc g) / 2 ≡ x / 2 - 2 ^ g = omega arith in e) (less_same (x / 2) g d)

pub less_other : (x g k : ℕ) → digit x g ≡ 1 → k ≢ g → digit (x - 2 ^ g) k ≡ digit x k
less_other x g k d o =
    let l : 2 ^ g ≤ x = pow_le x g d in
    let e : x - 2 ^ g + 2 ^ g ≡ x = omega arith in
    sym (add_other (x - 2 ^ g) g k (less_same x g d) o) ∙ ap (λ (y : ℕ). digit y k) e

pub add_lt : (n x g : ℕ) → x < 2 ^ n → g < n → digit x g ≡ 0 → x + 2 ^ g < 2 ^ n
unfolding digit
add_lt zero x g h k d = omega arith
add_lt (suc n) x zero h k d = omega arith
add_lt (suc n) x (suc g) h k d = omega (arith, add_lt n (x / 2) g (omega arith) (omega arith) d)

pub complement_lt : (n x : ℕ) → complement n x < 2 ^ n
complement_lt n x = omega (arith, pow_pos n)

pub digit_complement : (n x g : ℕ) → x < 2 ^ n → g < n → digit (complement n x) g + digit x g ≡ 1
unfolding digit
digit_complement zero x g h k = omega arith
digit_complement (suc n) x zero h k = omega arith
digit_complement (suc n) x (suc g) h k = rw (let e : complement (suc n) x / 2 ≡ complement n (x / 2) = omega arith in e) (digit_complement n (x / 2) g (omega arith) (omega arith))

pub back_lt : (n x g : ℕ) → x < 2 ^ n → digit x g ≡ 1 → complement n x + 2 ^ g < 2 ^ n
back_lt n x g h d =
    let l : g < n = digit_in n x g h d in
    add_lt n (complement n x) g (complement_lt n x) l (omega (arith, digit_complement n x g h l))

-- ---- what code tests: `x & y == x`, `x & y == 0`
pub digit_both : (x y g : ℕ) → digit (bit_and x y) g ≡ min (digit x g) (digit y g)
unfolding digit
digit_both x y zero = omega (arith, and_step x y)
digit_both x y (suc g) = rw (let e : bit_and x y / 2 ≡ bit_and (x / 2) (y / 2) = omega (arith, and_step x y) in e) (digit_both (x / 2) (y / 2) g)

pub digit_either : (x y g : ℕ) → digit (bit_or x y) g ≡ max (digit x g) (digit y g)
unfolding digit
digit_either x y zero = omega (arith, or_step x y)
digit_either x y (suc g) = rw (let e : bit_or x y / 2 ≡ bit_or (x / 2) (y / 2) = omega (arith, or_step x y) in e) (digit_either (x / 2) (y / 2) g)

pub and_inside : (x y : ℕ) → (bit_and x y ≡ x) ↔ Inside x y
and_inside x y = (
  (λ e g. let q : digit (bit_and x y) g ≡ digit x g = ap (λ (z : ℕ). digit z g) e in omega (arith, digit_both x y g)),
  (λ s. digits_same (bit_and x y) x (λ g. omega (arith, digit_both x y g, s g))),
)

pub and_apart : (x y : ℕ) → (bit_and x y ≡ 0) ↔ Apart x y
and_apart x y = (
  (λ e g. let q : digit (bit_and x y) g ≡ digit 0 g = ap (λ (z : ℕ). digit z g) e in omega (arith, digit_both x y g, digit_none g, digit_lt x g, digit_lt y g)),
  (λ s. digits_same (bit_and x y) 0 (λ g. omega (arith, digit_both x y g, s g, digit_none g))),
)

-- ---- a high part and k low digits
pub digit_low : (q k r g : ℕ) → r < 2 ^ k → g < k → digit (q * 2 ^ k + r) g ≡ digit r g
unfolding digit
digit_low q zero r g h l = omega arith
digit_low q (suc k) r zero h l = block_odd q k r
digit_low q (suc k) r (suc g) h l = rw (block_half q k r) (digit_low q k (r / 2) g (omega arith) (omega arith))

pub digit_above : (q k r g : ℕ) → r < 2 ^ k → digit (q * 2 ^ k + r) (k + g) ≡ digit q g
unfolding digit
digit_above q zero r g h = ap₂ digit (omega arith) (zero-add g)
digit_above q (suc k) r g h = ap (digit (q * 2 ^ suc k + r)) (suc-add k g) ∙ ap (λ (z : ℕ). digit z (k + g)) (block_half q k r) ∙ digit_above q k (r / 2) g (omega arith)

-- ---- what is not so has a witness
pub lt_or_ge : (a b : ℕ) → (a < b) ⊎ (b ≤ a)
lt_or_ge a b = go (dec_lt a b)
  where
    go : Dec (a < b) → (a < b) ⊎ (b ≤ a)
    go (yes h) = inl h
    go (no h) = inr (omega arith)

inside_suc : (x y : ℕ) → x % 2 ≤ y % 2 → Inside (x / 2) (y / 2) → (g : ℕ) → digit x g ≤ digit y g
unfolding digit
inside_suc x y h s zero = h
inside_suc x y h s (suc g) = s g

inside_or_in : (n x y : ℕ) → x < 2 ^ n → Inside x y ⊎ ((g : ℕ) × (digit x g ≡ 1) × (digit y g ≡ 0))
unfolding digit
inside_or_in zero x y h = inl (λ g. omega (arith, digit_high zero x g h (omega arith)))
inside_or_in (suc n) x y h = go (inside_or_in n (x / 2) (y / 2) (omega arith)) (lt_or_ge (y % 2) (x % 2))
  where
    go : Inside (x / 2) (y / 2) ⊎ ((g : ℕ) × (digit (x / 2) g ≡ 1) × (digit (y / 2) g ≡ 0)) → (y % 2 < x % 2) ⊎ (x % 2 ≤ y % 2) → Inside x y ⊎ ((g : ℕ) × (digit x g ≡ 1) × (digit y g ≡ 0))
    go (inl s) (inl l) = inr (0, omega arith, omega arith)
    go (inl s) (inr l) = inl (inside_suc x y l s)
    go (inr w) c = inr (suc w.0, w.1, w.2)

pub inside_or : (x y : ℕ) → Inside x y ⊎ ((g : ℕ) × (digit x g ≡ 1) × (digit y g ≡ 0))
inside_or x y = inside_or_in x x y (lt_pow x)

-- a part that lacks no group is the whole
pub part_whole : (x y : ℕ) → Inside x y → ((g : ℕ) → digit y g ≡ 1 → digit x g ≡ 0 → ⊥) → x ≡ y
part_whole x y s f = go (inside_or y x)
  where
    go : Inside y x ⊎ ((g : ℕ) × (digit y g ≡ 1) × (digit x g ≡ 0)) → x ≡ y
    go (inl t) = inside_antisym x y s t
    go (inr w) = absurd (f w.0 w.1 w.2)

pub none_inside : (x : ℕ) → Inside 0 x
none_inside x g = omega (arith, digit_none g)

pub no_group : (x : ℕ) → ((g : ℕ) → digit x g ≡ 1 → ⊥) → x ≡ 0
no_group x f = sym (part_whole 0 x (none_inside x) (λ g d e. f g d))

pub meets_or : (x y : ℕ) → Apart x y ⊎ Meets x y
meets_or x y = go (inside_or (bit_and x y) 0)
  where
    go : Inside (bit_and x y) 0 ⊎ ((g : ℕ) × (digit (bit_and x y) g ≡ 1) × (digit 0 g ≡ 0)) → Apart x y ⊎ Meets x y
    go (inl s) = inl (λ g. omega (arith, s g, digit_none g, digit_both x y g, digit_lt x g, digit_lt y g))
    go (inr w) = inr (w.0, (omega (arith, w.1, digit_both x y w.0, digit_lt x w.0), omega (arith, w.1, digit_both x y w.0, digit_lt y w.0)))

pub not_both : (x y : ℕ) → Apart x y → Meets x y → ⊥
not_both x y a m = omega (arith, a m.0, m.1.0, m.1.1)

-- ---- one group more or less, as parts
pub inside_add : (x g : ℕ) → digit x g ≡ 0 → Inside x (x + 2 ^ g)
inside_add x g d k = go (ℕ_discrete k g)
  where
    go : Dec (k ≡ g) → digit x k ≤ digit (x + 2 ^ g) k
    go (yes e) = rw e (omega (arith, add_same x g d))
    go (no o) = omega (arith, add_other x g k d o)

pub add_inside : (x y g : ℕ) → digit x g ≡ 0 → Inside x y → digit y g ≡ 1 → Inside (x + 2 ^ g) y
add_inside x y g d s e k = go (ℕ_discrete k g)
  where
    go : Dec (k ≡ g) → digit (x + 2 ^ g) k ≤ digit y k
    go (yes q) = rw q (omega (arith, add_same x g d, e))
    go (no o) = omega (arith, add_other x g k d o, s k)

pub less_inside : (x g : ℕ) → digit x g ≡ 1 → Inside (x - 2 ^ g) x
less_inside x g d k = go (ℕ_discrete k g)
  where
    go : Dec (k ≡ g) → digit (x - 2 ^ g) k ≤ digit x k
    go (yes e) = rw e (omega (arith, less_same x g d))
    go (no o) = omega (arith, less_other x g k d o)

-- a part that lacks g is a part of what is left without g
pub inside_less : (x y g : ℕ) → digit x g ≡ 0 → Inside x y → digit y g ≡ 1 → Inside x (y - 2 ^ g)
inside_less x y g d s e k = go (ℕ_discrete k g)
  where
    go : Dec (k ≡ g) → digit x k ≤ digit (y - 2 ^ g) k
    go (yes q) = rw q (omega (arith, d))
    go (no o) = omega (arith, less_other y g k e o, s k)

-- ---- two choices together
pub digit_sum : (x y g : ℕ) → Apart x y → digit (x + y) g ≡ digit x g + digit y g
unfolding digit
digit_sum x y zero A = omega (arith, A 0)
digit_sum x y (suc g) A = rw (let e : (x + y) / 2 ≡ x / 2 + y / 2 = omega (arith, A 0) in e) (digit_sum (x / 2) (y / 2) g (λ k. A (suc k)))

-- ---- the complement and the parts
pub complement_twice : (n x : ℕ) → x < 2 ^ n → complement n (complement n x) ≡ x
complement_twice n x h = omega arith

pub apart_inside : (n x y : ℕ) → x < 2 ^ n → y < 2 ^ n → Apart x y → Inside x (complement n y)
apart_inside n x y h k a g = go (lt_or_ge g n)
  where
    go : (g < n) ⊎ (n ≤ g) → digit x g ≤ digit (complement n y) g
    go (inl l) = omega (arith, a g, digit_complement n y g k l)
    go (inr l) = omega (arith, digit_high n x g h l)

pub inside_apart : (n x y : ℕ) → x < 2 ^ n → y < 2 ^ n → Inside x (complement n y) → Apart x y
inside_apart n x y h k s g = go (lt_or_ge g n)
  where
    go : (g < n) ⊎ (n ≤ g) → digit x g + digit y g ≤ 1
    go (inl l) = omega (arith, s g, digit_complement n y g k l)
    go (inr l) = omega (arith, digit_high n x g h l, digit_lt y g)

pub complement_inside : (n x y : ℕ) → x < 2 ^ n → y < 2 ^ n → Inside x y → Inside (complement n y) (complement n x)
complement_inside n x y h k s g = go (lt_or_ge g n)
  where
    go : (g < n) ⊎ (n ≤ g) → digit (complement n y) g ≤ digit (complement n x) g
    go (inl l) = omega (arith, s g, digit_complement n y g k l, digit_complement n x g h l)
    go (inr l) = omega (arith, digit_high n (complement n y) g (complement_lt n y) l)

-- ---- numbers that share their high part q, below which k digits are free
pub inside_low : (q k r s : ℕ) → r < 2 ^ k → Inside (q * 2 ^ k + r) s → Inside (q * 2 ^ k + r) (q * 2 ^ k + s % 2 ^ k)
inside_low q k r s h t g = go (lt_or_ge g k)
  where
    b : s % 2 ^ k < 2 ^ k
    b = mod-lt s (pow_pos k)

    go : (g < k) ⊎ (k ≤ g) → digit (q * 2 ^ k + r) g ≤ digit (q * 2 ^ k + s % 2 ^ k) g
    go (inl l) = omega (arith, t g, digit_low q k (s % 2 ^ k) g b l, digit_low (s / 2 ^ k) k (s % 2 ^ k) g b l, ap (λ (z : ℕ). digit z g) (split s k))
    go (inr l) = rw (let e : g ≡ k + (g - k) = omega arith in e) (omega (arith, digit_above q k r (g - k) h, digit_above q k (s % 2 ^ k) (g - k) b))

pub block_inside : (q k r s : ℕ) → r < 2 ^ k → s < 2 ^ k → Inside r s → Inside (q * 2 ^ k + r) (q * 2 ^ k + s)
block_inside q k r s h b t g = go (lt_or_ge g k)
  where
    go : (g < k) ⊎ (k ≤ g) → digit (q * 2 ^ k + r) g ≤ digit (q * 2 ^ k + s) g
    go (inl l) = omega (arith, t g, digit_low q k s g b l, digit_low q k r g h l)
    go (inr l) = rw (let e : g ≡ k + (g - k) = omega arith in e) (omega (arith, digit_above q k r (g - k) h, digit_above q k s (g - k) b))

pub base_inside : (q k r : ℕ) → r < 2 ^ k → Inside (q * 2 ^ k) (q * 2 ^ k + r)
base_inside q k r h =
    let e : q * 2 ^ k + 0 ≡ q * 2 ^ k = omega arith in
    subst (λ (z : ℕ). Inside z (q * 2 ^ k + r)) e (block_inside q k 0 r (pow_pos k) h (λ g. omega (arith, digit_none g)))

-- ---- the low digits of s
pub mod_low : (s k g : ℕ) → g < k → digit (s % 2 ^ k) g ≡ digit s g
mod_low s k g l = sym (digit_low (s / 2 ^ k) k (s % 2 ^ k) g (mod-lt s (pow_pos k)) l) ∙ ap (λ (z : ℕ). digit z g) (split s k)

pub mod_inside : (s j k : ℕ) → j ≤ k → Inside (s % 2 ^ j) (s % 2 ^ k)
mod_inside s j k l g = go (lt_or_ge g j)
  where
    go : (g < j) ⊎ (j ≤ g) → digit (s % 2 ^ j) g ≤ digit (s % 2 ^ k) g
    go (inl m) = omega (arith, mod_low s j g m, mod_low s k g (omega arith))
    go (inr m) = omega (arith, digit_high j (s % 2 ^ j) g (mod-lt s (pow_pos j)) m)

-- one digit more
pub mod_more : (s j : ℕ) → s % 2 ^ suc j ≡ digit s j * 2 ^ j + s % 2 ^ j
mod_more s j = ap (λ (z : ℕ). s % z) (pow-succ' 2 j) ∙ mod-mul s (omega arith) (pow_pos j) ∙ ap (λ (z : ℕ). z * 2 ^ j + s % 2 ^ j) (sym (digit_of s j))

pub low_again : (x j k : ℕ) → j ≤ k → x % 2 ^ k % 2 ^ j ≡ x % 2 ^ j
low_again x j k h = ap (λ (e : ℕ). x % 2 ^ e % 2 ^ j) (let q : k ≡ k - j + j = omega arith in q) ∙ mod-mod-pow x (k - j) j

-- the code's `1 << g` at a width w
pub shl_bit : (w g : ℕ) → g < w → (1 * 2 ^ g) % 2 ^ w ≡ 2 ^ g
shl_bit w g h = ap (λ (z : ℕ). z % 2 ^ w) (let e : 1 * 2 ^ g ≡ 2 ^ g = omega arith in e) ∙ mod-eq_of_lt (pow-lt h)

-- a power that leaves room has a small exponent
pub pow_room : (x k w : ℕ) → x + 2 ^ k ≤ 2 ^ w → k ≤ w
pow_room x k w h = go (lt_or_ge w k)
  where
    go : (w < k) ⊎ (k ≤ w) → k ≤ w
    go (inr l) = l
    go (inl l) = absurd (omega (arith, pow-lt l))

pub pow_half : (k : ℕ) → 0 < k → 2 ^ k ≡ 2 ^ (k - 1) + 2 ^ (k - 1)
pow_half k h = ap (λ (z : ℕ). 2 ^ z) (let e : k ≡ suc (k - 1) = omega arith in e) ∙ (let q : 2 ^ suc (k - 1) ≡ 2 ^ (k - 1) + 2 ^ (k - 1) = omega arith in q)

-- the code's `s / p % 2`, with p the power
pub digit_bit : (s j p : ℕ) → p ≡ 2 ^ j → digit s j ≡ s / p % 2
digit_bit s j p e = digit_of s j ∙ ap (λ (z : ℕ). s / z % 2) (sym e)

pub digit_off : (s j p : ℕ) → p ≡ 2 ^ j → (s / p % 2 ≡ 1 → ⊥) → digit s j ≡ 0
digit_off s j p e o = omega (arith, digit_bit s j p e, digit_lt s j)

pub digit_pow : (g : ℕ) → digit (2 ^ g) g ≡ 1
digit_pow g = ap (λ (z : ℕ). digit z g) (sym (zero-add (2 ^ g))) ∙ add_same 0 g (digit_none g)

pub digit_pow_other : (g k : ℕ) → k ≢ g → digit (2 ^ g) k ≡ 0
digit_pow_other g k o = ap (λ (z : ℕ). digit z k) (sym (zero-add (2 ^ g))) ∙ add_other 0 g k (digit_none g) o ∙ digit_none k

-- ---- the digits above the first k
pub digit_over : (x k g : ℕ) → digit (x / 2 ^ k) g ≡ digit x (k + g)
digit_over x k g =
    sym (high_is) ∙ ap (λ (z : ℕ). digit z (k + g)) (split x k)
  where
    high_is : digit (x / 2 ^ k * 2 ^ k + x % 2 ^ k) (k + g) ≡ digit (x / 2 ^ k) g
    high_is = digit_above (x / 2 ^ k) k (x % 2 ^ k) g (mod-lt x (pow_pos k))

pub over_step : (x g : ℕ) → x / 2 ^ g ≡ 2 * (x / 2 ^ suc g) + digit x g
over_step x g =
    let e : x / 2 ^ suc g ≡ x / 2 ^ g / 2 = ap (λ (z : ℕ). x / z) (let q : 2 ^ suc g ≡ 2 ^ g * 2 = omega arith in q) ∙ sym (div-div-eq-div-mul x (2 ^ g) 2) in
    omega (arith, e, digit_of x g)

pub over_lt : (x y g : ℕ) → x / 2 ^ suc g ≡ y / 2 ^ suc g → digit x g ≡ 0 → digit y g ≡ 1 → x < y
over_lt x y g e d f =
    let m : y / 2 ^ g ≡ suc (x / 2 ^ g) = omega (arith, over_step x g, over_step y g, e, d, f) in
    let q : y / 2 ^ g * 2 ^ g ≡ x / 2 ^ g * 2 ^ g + 2 ^ g = ap (λ (z : ℕ). z * 2 ^ g) m ∙ suc-mul (x / 2 ^ g) (2 ^ g) in
    omega (arith, split x g, split y g, mod-lt x (pow_pos g), q)

pub over_le : (x y k : ℕ) → x ≤ y → x / 2 ^ k ≤ y / 2 ^ k
over_le x y k h = (le-div_iff_mul-le (pow_pos k)).1 (omega (arith, div-mul-le_self x (2 ^ k)))

pub over_less : (x y k : ℕ) → x / 2 ^ k < y / 2 ^ k → x < y
over_less x y k h = go (lt_or_ge x y)
  where
    go : (x < y) ⊎ (y ≤ x) → x < y
    go (inl l) = l
    go (inr l) = absurd (omega (arith, over_le y x k l))
