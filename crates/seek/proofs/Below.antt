-- Laws of the search below the last seed, and of what a search answers.
--   starts_parts, starts_reasons    the path where nothing is decided
--   seeks_seed, seeks_none          what the search from there finds is the seed; it finds nothing where there is none
--   at_seed, none_seed              the largest choice that fits is the seed; there is none where no choice fits
--   above_digit, above_low          the groups above g
--   reason_in, reason_out           what a group rests on along the last seed
--   same_top, rests_out             a choice that contains the seed's groups above g, and is less, agrees with it there; it lacks g where the seed does
--   held_fits                       its groups above g, with g, are a choice of the groups
--   along_parts, along_reasons      the path along the last seed down to a group of it
--   whole_parts, whole_reasons      the path along all of the last seed
--   clear_start, ruled_start, clear_end      no choice agrees with the last seed, or contains it; where none agrees from the last group on, none fits
--   clear_other, clear_tried        from g to the next group: g is not in the last seed; no choice that contains the groups above g fits
--   found_below                     a choice found below is the largest that fits
--   along_more, along_next, along_same, along_after, tries_ruled, tries_sought      the same, as code goes
-- Assumes nothing.
use Prim.Native.Nat.{ℕ, suc, ◌+◌, ◌-◌, ◌*◌, ◌/◌, ◌%◌, ◌^◌, ◌≤◌, ◌<◌}
use mathlib.Core.Path.{◌≡◌, sym, ap, ◌∙◌, subst}
use mathlib.Core.Logic.{◌⊎◌, inl, inr}
use mathlib.Core.List.{List}
use mathlib.Core.Option.{some, none}
use mathlib.Core.Bool.{Bool, true, false, cond}
use native.Mathlib.Omega.{arith}
use native.Mathlib.Nat.{mod-lt, div-one, div-eq_of_lt, add-zero}
use native.Mathlib.Decide.{ℕ_discrete}
use lib.Bits.{bit_and}
use lib.Pow.{pow_pos, split}
use lib.ListN.{length, get_or, set}
use lib.Seq.{get_or-set_same, get_or-set_other}
use borrow.Author.Tests.{eq-eqb, ne_eqb}
use Rattle.answer.proofs.Tests.{holds_or}
use Rattle.meaning.specs.Choice.{digit, Inside, complement}
use Rattle.meaning.proofs.Choices.{digit_lt, digit_or, digit_none, digit_high}
use Rattle.rounds.specs.Records.{Record, allowed}
use Rattle.rounds.specs.Rounds.{seed}
use Rattle.rounds.proofs.Digits.{lt_or_ge, digit_in, digit_complement, digit_low, digit_above, digit_over, over_step, over_lt, over_le, over_less}
use Rattle.rounds.proofs.Digits.{base_inside, none_inside, inside_le, inside_refl, inside_trans, digit_pow, digit_pow_other, and_inside, mod_more}
use Rattle.rounds.proofs.Seeds.{seed_is, largest_one}
use Rattle.path.specs.Paths.{Fits, Parts, Decides, Reasons, Same}
use Rattle.seek.specs.Paths.{Seeks, sought_is, above, reason_of, Along, Clear, Tries}
use Rattle.std.proofs.Common.{Result, Ok, Err, Some, None}

-- ---- what a search answers
module _ (n : ℕ) (rs : List Record) where
  pub at_seed : (s : ℕ) → Fits n rs s → ((z : ℕ) → Fits n rs z → z ≤ s) → sought_is (Some s) ≡ seed n rs
  unfolding sought_is
  at_seed s f m = largest_one (allowed rs) (2 ^ n) (some s) (seed n rs) (f.0, f.1, λ z l h. go z l h (holds_or (allowed rs z))) (seed_is n rs)
    where
      go : (z : ℕ) → s < z → z < 2 ^ n → (allowed rs z ≡ true) ⊎ (allowed rs z ≡ false) → allowed rs z ≡ false
      go z l h (inl a) = absurd (omega (arith, m z (h, a)))
      go z l h (inr a) = a

  pub none_seed : ((z : ℕ) → Fits n rs z → ⊥) → sought_is None ≡ seed n rs
  unfolding sought_is
  none_seed f = largest_one (allowed rs) (2 ^ n) none (seed n rs) (λ z h. go z h (holds_or (allowed rs z))) (seed_is n rs)
    where
      go : (z : ℕ) → z < 2 ^ n → (allowed rs z ≡ true) ⊎ (allowed rs z ≡ false) → allowed rs z ≡ false
      go z h (inl a) = absurd (f z (h, a))
      go z h (inr a) = a

  pub seeks_seed : (s : ℕ) → Seeks (Fits n rs) 0 (Ok s) → sought_is (Some s) ≡ seed n rs
  seeks_seed s S = at_seed s S.0 (λ z f. S.2 z f (none_inside z))

  pub seeks_none : (c : ℕ) → Seeks (Fits n rs) 0 (Err c) → sought_is None ≡ seed n rs
  seeks_none c S = none_seed (λ z f. S.1 z f (inside_trans c 0 z S.0 (none_inside z)))

pub starts_parts : (n : ℕ) → Parts n 0 0 (2 ^ n - 1)
starts_parts n =
    record {
      taken_in = pow_pos n;
      left_in = pow_pos n;
      free_in = omega (arith, pow_pos n);
      one = λ g h. omega (arith, digit_none g, digit_complement n 0 g (pow_pos n) h, ap (λ (x : ℕ). digit x g) (let e : complement n 0 ≡ 2 ^ n - 1 = omega arith in e));
    }

pub starts_reasons : (Fit : ℕ → Type 0) (why : List ℕ) → Reasons Fit 0 0 0 why
starts_reasons Fit why = record { trial = inside_refl 0; takes = λ g d. absurd (omega (arith, d, digit_none g)); leaves = λ g d. absurd (omega (arith, d, digit_none g)) }

-- ---- the groups above g
pub above_digit : (x g j : ℕ) → g < j → digit (above x g) j ≡ digit x j
above_digit x g j h =
    ap (digit (above x g)) (let e : j ≡ suc g + (j - suc g) = omega arith in e)
    ∙ ap (λ (y : ℕ). digit y (suc g + (j - suc g))) (sym (add-zero (above x g)))
    ∙ digit_above (x / 2 ^ suc g) (suc g) 0 (j - suc g) (pow_pos (suc g))
    ∙ digit_over x (suc g) (j - suc g)
    ∙ ap (digit x) (let e : suc g + (j - suc g) ≡ j = omega arith in e)

pub above_low : (x g j : ℕ) → j ≤ g → digit (above x g) j ≡ 0
above_low x g j h = ap (λ (y : ℕ). digit y j) (sym (add-zero (above x g))) ∙ digit_low (x / 2 ^ suc g) (suc g) 0 j (pow_pos (suc g)) (omega arith) ∙ digit_none j

pub reason_in : (last g : ℕ) → digit last g ≡ 1 → reason_of last g ≡ 2 ^ g
unfolding reason_of
reason_in last g d = ap (λ (b : Bool). cond b (2 ^ g) (above last g)) (eq-eqb (digit last g) 1 d)

pub reason_out : (last g : ℕ) → digit last g ≡ 0 → reason_of last g ≡ above last g
unfolding reason_of
reason_out last g d = ap (λ (b : Bool). cond b (2 ^ g) (above last g)) (ne_eqb (digit last g) 1 (λ e. omega (arith, d, e)))

pub same_top : (last z g : ℕ) → z < last → Inside (above last g) z → z / 2 ^ suc g ≡ last / 2 ^ suc g
same_top last z g h i =
    omega (
      arith,
      over_le z last (suc g) (omega arith),
      inside_le (last / 2 ^ suc g) (z / 2 ^ suc g) (λ j. omega (arith, digit_over last (suc g) j, digit_over z (suc g) j, above_digit last g (suc g + j) (omega arith), i (suc g + j))),
    )

pub rests_out : (last z g : ℕ) → z < last → digit last g ≡ 0 → Inside (above last g) z → digit z g ≡ 0
rests_out last z g h d i = go (digit_or z g)
  where
    go : (digit z g ≡ 0) ⊎ (digit z g ≡ 1) → digit z g ≡ 0
    go (inl o) = o
    go (inr o) = absurd (omega (arith, over_lt last z g (sym (same_top last z g h i)) d o, h))

holds_above : (last z g : ℕ) → z / 2 ^ suc g ≡ last / 2 ^ suc g → Inside (above last g) z
holds_above last z g e =
    subst (Inside (above last g)) (split z (suc g))
    (subst (λ (q : ℕ). Inside (above last g) (q * 2 ^ suc g + z % 2 ^ suc g)) (sym e) (base_inside (last / 2 ^ suc g) (suc g) (z % 2 ^ suc g) (mod-lt z (pow_pos (suc g)))))

agree : (last z g : ℕ) → z / 2 ^ suc g ≡ last / 2 ^ suc g → digit z g ≡ digit last g → z / 2 ^ g ≡ last / 2 ^ g
agree last z g e d = omega (arith, over_step z g, over_step last g)

-- ---- along the last seed
module _ (n last g : ℕ) (h : last < 2 ^ n) (d : digit last g ≡ 1) where
  low : ℕ
  low = 2 ^ g - 1

  pub held_fits : above last g + 2 ^ g < 2 ^ n
  held_fits = omega (arith, split last (suc g), mod_more last g, d, ap (λ (x : ℕ). x * 2 ^ g) d, h)

  low_digit : (j : ℕ) → j < g → digit (2 ^ g - 1) j ≡ 1
  low_digit j l = omega (arith, digit_none j, digit_complement g 0 j (pow_pos g) l, ap (λ (x : ℕ). digit x j) (let e : complement g 0 ≡ 2 ^ g - 1 = omega arith in e))

  high_digit : (j : ℕ) → g ≤ j → digit (2 ^ g - 1) j ≡ 0
  high_digit j l = digit_high g (2 ^ g - 1) j (omega (arith, pow_pos g)) l

  sum_digit : (j : ℕ) → digit (above last g + (2 ^ g - 1)) j ≡ digit (above last g) j + digit (2 ^ g - 1) j
  sum_digit j = go (lt_or_ge j (suc g))
    where
      short : 2 ^ g - 1 < 2 ^ suc g
      short = omega (arith, pow_pos g)

      go : (j < suc g) ⊎ (suc g ≤ j) → digit (above last g + (2 ^ g - 1)) j ≡ digit (above last g) j + digit (2 ^ g - 1) j
      go (inl l) = omega (arith, digit_low (last / 2 ^ suc g) (suc g) (2 ^ g - 1) j short l, above_low last g j (omega arith))
      go (inr l) =
          let e : j ≡ suc g + (j - suc g) = omega arith in
          let u : digit (above last g + (2 ^ g - 1)) j ≡ digit last j =
          ap (digit (above last g + (2 ^ g - 1))) e ∙ digit_above (last / 2 ^ suc g) (suc g) (2 ^ g - 1) (j - suc g) short ∙ digit_over last (suc g) (j - suc g) ∙ ap (digit last) (sym e) in
          omega (arith, u, above_digit last g j (omega arith), high_digit j (omega arith))

  left_digit : (left : ℕ) → left ≡ 2 ^ n - 1 - above last g - (2 ^ g - 1) → (j : ℕ) → j < n → digit left j + digit (above last g) j + digit (2 ^ g - 1) j ≡ 1
  left_digit left e j l =
      omega (
        arith,
        ap (λ (x : ℕ). digit x j) (e ∙ (let q : 2 ^ n - 1 - above last g - (2 ^ g - 1) ≡ complement n (above last g + (2 ^ g - 1)) = omega arith in q)),
        digit_complement n (above last g + (2 ^ g - 1)) j (omega (arith, held_fits)) l,
        sum_digit j,
      )

  module _ (left : ℕ) (e : left ≡ 2 ^ n - 1 - above last g - (2 ^ g - 1)) where
    pub along_parts : Parts n (above last g) left (2 ^ g - 1)
    along_parts =
        record {
          taken_in = omega (arith, held_fits);
          left_in = omega (arith, e, pow_pos n);
          free_in = omega (arith, held_fits);
          one = λ j l. omega (arith, left_digit left e j l);
        }

    module _ (Fit : ℕ → Type 0) (why : List ℕ) (A : Along last n g why) (long : g < length why) (falls : (z : ℕ) → Fit z → z < last) (C : Clear Fit last g) where
      later : (j : ℕ) → g < j → j < n → get_or (set why g (above last g)) j 0 ≡ reason_of last j
      later j l b = get_or-set_other why g j (above last g) 0 (omega arith) ∙ A j (omega arith) b

      takes : Decides Fit (above last g) (above last g) (set why g (above last g)) 1
      takes j q =
          subst (λ (y : ℕ). Inside y (above last g) × ((z : ℕ) → Fit z → Inside y z → digit z j ≡ 1)) (sym r)
          ((λ i. one i (ℕ_discrete i j)), λ z f i. omega (arith, i j, digit_pow j, digit_lt z j))
        where
          over : g < j
          over = go (lt_or_ge g j)
            where
              go : (g < j) ⊎ (j ≤ g) → g < j
              go (inl l) = l
              go (inr l) = absurd (omega (arith, above_low last g j l))

          in_last : digit last j ≡ 1
          in_last = sym (above_digit last g j over) ∙ q

          r : get_or (set why g (above last g)) j 0 ≡ 2 ^ j
          r = later j over (digit_in n last j h in_last) ∙ reason_in last j in_last

          one : (i : ℕ) → Dec (i ≡ j) → digit (2 ^ j) i ≤ digit (above last g) i
          one i (yes w) = rw w (omega (arith, q, digit_lt (2 ^ j) j))
          one i (no w) = omega (arith, digit_pow_other j i w)

      leaves : Decides Fit (above last g) left (set why g (above last g)) 0
      leaves j q = go (ℕ_discrete j g)
        where
          b : j < n
          b = digit_in n left j along_parts.left_in q

          higher : g ≤ j
          higher = pick (lt_or_ge j g)
            where
              pick : (j < g) ⊎ (g ≤ j) → g ≤ j
              pick (inl l) = absurd (omega (arith, left_digit left e j b, low_digit j l))
              pick (inr l) = l

          not_two : (z : ℕ) → (digit z j ≡ 1 → ⊥) → digit z j ≡ 0
          not_two z o = omega (arith, digit_lt z j, o)

          go : Dec (j ≡ g) → Inside (get_or (set why g (above last g)) j 0) (above last g) × ((z : ℕ) → Fit z → Inside (get_or (set why g (above last g)) j 0) z → digit z j ≡ 0)
          go (yes w) =
              subst (λ (y : ℕ). Inside y (above last g) × ((z : ℕ) → Fit z → Inside y z → digit z j ≡ 0))
              (sym (ap (λ (k : ℕ). get_or (set why g (above last g)) k 0) w ∙ get_or-set_same why g (above last g) 0 long))
              (inside_refl (above last g), λ z f i. not_two z (λ u. C z f (agree last z g (same_top last z g (falls z f) i) (sym (ap (digit z) w) ∙ u ∙ sym d))))
          go (no w) =
              let l : g < j = omega (arith, higher) in
              let o : digit last j ≡ 0 = omega (arith, left_digit left e j b, above_digit last g j l) in
              subst (λ (y : ℕ). Inside y (above last g) × ((z : ℕ) → Fit z → Inside y z → digit z j ≡ 0)) (sym (later j l b ∙ reason_out last j o))
              ((λ i. under i (lt_or_ge j i)), λ z f i. rests_out last z j (falls z f) o i)
            where
              under : (i : ℕ) → (j < i) ⊎ (i ≤ j) → digit (above last j) i ≤ digit (above last g) i
              under i (inl l) = omega (arith, above_digit last j i l, above_digit last g i (omega (arith, higher)))
              under i (inr l) = omega (arith, above_low last j i l)

      pub along_reasons : Reasons Fit (above last g) (above last g) left (set why g (above last g))
      along_reasons = record { trial = inside_refl (above last g); takes = takes; leaves = leaves }

-- ---- along all of the last seed
module _ (n last : ℕ) (h : last < 2 ^ n) where
  other : (j : ℕ) → j < n → digit (2 ^ n - 1 - last) j + digit last j ≡ 1
  other j l = omega (arith, digit_complement n last j h l, ap (λ (x : ℕ). digit x j) (let e : complement n last ≡ 2 ^ n - 1 - last = omega arith in e))

  pub whole_parts : Parts n last (2 ^ n - 1 - last) 0
  whole_parts = record { taken_in = h; left_in = omega (arith, pow_pos n); free_in = pow_pos n; one = λ j l. omega (arith, other j l, digit_none j) }

  module _ (Fit : ℕ → Type 0) (why : List ℕ) (A : Along last n 0 why) (falls : (z : ℕ) → Fit z → z < last) where
    pub whole_reasons : Reasons Fit last last (2 ^ n - 1 - last) why
    whole_reasons = record { trial = inside_refl last; takes = takes; leaves = leaves }
      where
        takes : Decides Fit last last why 1
        takes j q =
            subst (λ (y : ℕ). Inside y last × ((z : ℕ) → Fit z → Inside y z → digit z j ≡ 1)) (sym (A j (omega arith) (digit_in n last j h q) ∙ reason_in last j q))
            ((λ i. one i (ℕ_discrete i j)), λ z f i. omega (arith, i j, digit_pow j, digit_lt z j))
          where
            one : (i : ℕ) → Dec (i ≡ j) → digit (2 ^ j) i ≤ digit last i
            one i (yes w) = rw w (omega (arith, q, digit_lt (2 ^ j) j))
            one i (no w) = omega (arith, digit_pow_other j i w)

        leaves : Decides Fit last (2 ^ n - 1 - last) why 0
        leaves j q =
            let l : j < n = digit_in n (2 ^ n - 1 - last) j (omega (arith, pow_pos n)) q in
            let o : digit last j ≡ 0 = omega (arith, other j l) in
            subst (λ (y : ℕ). Inside y last × ((z : ℕ) → Fit z → Inside y z → digit z j ≡ 0)) (sym (A j (omega arith) l ∙ reason_out last j o))
            ((λ i. under i (lt_or_ge j i)), λ z f i. rests_out last z j (falls z f) o i)
          where
            under : (i : ℕ) → (j < i) ⊎ (i ≤ j) → digit (above last j) i ≤ digit last i
            under i (inl b) = omega (arith, above_digit last j i b)
            under i (inr b) = omega (arith, above_low last j i b)

-- ---- from one group to the next
module _ (Fit : ℕ → Type 0) (last : ℕ) (falls : (z : ℕ) → Fit z → z < last) where
  pub clear_start : Clear Fit last 0
  clear_start z f e = omega (arith, falls z f, e, div-one z, div-one last)

  pub ruled_start : (z : ℕ) → Fit z → Inside last z → ⊥
  ruled_start z f i = omega (arith, falls z f, inside_le last z i)

  pub clear_other : (g : ℕ) → digit last g ≡ 0 → Clear Fit last g → Clear Fit last (suc g)
  clear_other g d C z f e = go (digit_or z g)
    where
      go : (digit z g ≡ 0) ⊎ (digit z g ≡ 1) → ⊥
      go (inl o) = C z f (agree last z g e (o ∙ sym d))
      go (inr o) = omega (arith, over_lt last z g (sym e) d o, falls z f)

  pub clear_tried : (g : ℕ) → ((z : ℕ) → Fit z → Inside (above last g) z → ⊥) → Clear Fit last (suc g)
  clear_tried g N z f e = N z f (holds_above last z g e)

  pub found_below : (g s : ℕ) → Seeks Fit (above last g) (Ok s) → (z : ℕ) → Fit z → z ≤ s
  found_below g s S z f = go (lt_or_ge (z / 2 ^ suc g) (last / 2 ^ suc g))
    where
      go : (z / 2 ^ suc g < last / 2 ^ suc g) ⊎ (last / 2 ^ suc g ≤ z / 2 ^ suc g) → z ≤ s
      go (inl l) = let q : z < s = over_less z s (suc g) (omega (arith, same_top last s g (falls s S.0) S.1)) in omega arith
      go (inr l) = S.2 z f (holds_above last z g (omega (arith, over_le z last (suc g) (omega (arith, falls z f)))))

pub clear_end : (n : ℕ) (rs : List Record) (last : ℕ) → last < 2 ^ n → Clear (Fits n rs) last n → (z : ℕ) → Fits n rs z → ⊥
clear_end n rs last h C z f = C z f (div-eq_of_lt f.0 ∙ sym (div-eq_of_lt h))

-- ---- as code goes
pub along_more : (last g r : ℕ) (why : List ℕ) → ((j : ℕ) → j < g → get_or why j 0 ≡ reason_of last j) → g < length why → r ≡ reason_of last g → (j : ℕ) → j < g + 1 → get_or (set why g r) j 0 ≡ reason_of last j
along_more last g r why f h e j l = go (ℕ_discrete j g)
  where
    go : Dec (j ≡ g) → get_or (set why g r) j 0 ≡ reason_of last j
    go (yes q) = ap (λ (k : ℕ). get_or (set why g r) k 0) q ∙ get_or-set_same why g r 0 h ∙ e ∙ ap (reason_of last) (sym q)
    go (no o) = get_or-set_other why g j r 0 o ∙ f j (omega arith)

pub along_next : (last n g : ℕ) (why : List ℕ) → Along last n g why → Along last n (suc g) why
along_next last n g why A j h l = A j (omega arith) l

pub along_same : (last n : ℕ) (why after : List ℕ) → Along last n 0 why → Same 0 why after → Along last n 0 after
along_same last n why after A S j h l = S.rest j (digit_none j) ∙ A j h l

pub along_after : (last n g f x : ℕ) (why after : List ℕ) → Along last n g why → f ≡ 2 ^ g - 1 → Same f (set why g x) after → Along last n (suc g) after
along_after last n g f x why after A e S j h l =
    S.rest j (ap (λ (y : ℕ). digit y j) e ∙ digit_high g (2 ^ g - 1) j (omega (arith, pow_pos g)) (omega arith)) ∙ get_or-set_other why g j x 0 (omega arith) ∙ A j (omega arith) l

module _ (Fit : ℕ → Type 0) (last : ℕ) (falls : (z : ℕ) → Fit z → z < last) (g : ℕ) where
  pub tries_ruled : (c held : ℕ) → ((z : ℕ) → Fit z → Inside c z → ⊥) → held ≡ above last g → bit_and c held ≡ c → Tries Fit last g (Err c)
  tries_ruled c held N e q = (N, clear_tried Fit last falls g (λ z f i. N z f (inside_trans c (above last g) z (subst (Inside c) e ((and_inside c held).0 q)) i)))

  pub tries_sought : (held : ℕ) (r : Result ℕ ℕ) → held ≡ above last g → Seeks Fit held r → Tries Fit last g r
  tries_sought held (Ok s) e S = (S.0, found_below Fit last falls g s (subst (λ (h : ℕ). Seeks Fit h (Ok s)) e S))
  tries_sought held (Err c) e S = (S.1, clear_tried Fit last falls g (λ z f i. S.1 z f (inside_trans c (above last g) z (subst (Inside c) e S.0) i)))
