-- Laws of the search's branches.
--   alike                    choices that contain the trials agree on every group that is not free
--   leaf_seeks               where every group is decided, one choice is left
--   lower                    of two choices that agree above a group, the one without it is less
--   has_bit, lacks_bit       the test of one group by its bit
--   trial_parts, trial_held, trial_reasons      a group taken by trial: the path with it
--   trial_found, trial_jump, trial_out      a choice found there; a failure that does not rest on it; one that does (out_parts)
--   step_fits, step_wide, step_in, step_found, step_jump, step_less, step_out, step_same      the same, as code makes it
-- Assumes nothing.
use Prim.Native.Nat.{ℕ, suc, ◌+◌, ◌-◌, ◌/◌, ◌^◌, ◌≤◌, ◌<◌}
use mathlib.Core.Path.{◌≡◌, refl, sym, ap, ◌∙◌, subst}
use mathlib.Core.Logic.{◌⊎◌, inl, inr, ◌≢◌}
use mathlib.Core.List.{List}
use mathlib.Core.Bool.{Bool, true, false, cond}
use native.Mathlib.Omega.{arith}
use native.Mathlib.Decide.{ℕ_discrete}
use lib.Bits.{bit_and}
use lib.Pow.{pow_pos, pow_mono}
use lib.ListN.{length, get_or, set, length-set}
use lib.Seq.{get_or-set_other}
use Rattle.answer.proofs.Tests.{clash}
use Rattle.meaning.specs.Choice.{digit, Inside}
use Rattle.meaning.proofs.Choices.{digit_lt, digit_or, digit_none, digit_high}
use Rattle.rounds.specs.Records.{Record, allowed}
use Rattle.rounds.proofs.Digits.{lt_or_ge, digits_same, digit_both, add_same, add_other, less_same, less_other, pow_le}
use Rattle.rounds.proofs.Digits.{inside_le, inside_refl, inside_trans, inside_add, add_inside, digit_pow, digit_pow_other}
use Rattle.choice.specs.Groups.{Highest}
use Rattle.path.specs.Paths.{Fits, Parts, Reasons, Rules, Same}
use Rattle.path.proofs.Paths.{parts_swap, parts_take, free_below, free_taken, less_free, reasons_same, reasons_take, reasons_leave}
use Rattle.path.proofs.Pressing.{same_trans, same_wider, same_set}
use Rattle.seek.specs.Paths.{leaf_of, Seeks}
use Rattle.std.proofs.Common.{Ok, Err}

-- ---- where every group is decided
module _ (n : ℕ) (rs : List Record) (held taken left free : ℕ) (why : List ℕ) (P : Parts n taken left free) (R : Reasons (Fits n rs) held taken left why) where
  pub alike : (z : ℕ) → Fits n rs z → Inside held z → (g : ℕ) → digit free g ≡ 0 → digit z g ≡ digit taken g
  alike z f i g q = go (lt_or_ge g n)
    where
      side : g < n → (digit taken g ≡ 0) ⊎ (digit taken g ≡ 1) → digit z g ≡ digit taken g
      side h (inl d) =
          let l : digit left g ≡ 1 = omega (arith, P.one g h) in
          (R.leaves g l).1 z f (inside_trans (get_or why g 0) held z (R.leaves g l).0 i) ∙ sym d
      side h (inr d) = (R.takes g d).1 z f (inside_trans (get_or why g 0) held z (R.takes g d).0 i) ∙ sym d

      go : (g < n) ⊎ (n ≤ g) → digit z g ≡ digit taken g
      go (inl h) = side h (digit_or taken g)
      go (inr h) = digit_high n z g f.0 h ∙ sym (digit_high n taken g P.taken_in h)

  pub leaf_seeks : free ≡ 0 → Seeks (Fits n rs) held (leaf_of rs held taken)
  unfolding leaf_of
  leaf_seeks e = go (allowed rs taken) refl
    where
      only : (z : ℕ) → Fits n rs z → Inside held z → z ≡ taken
      only z f i = digits_same z taken (λ g. alike z f i g (ap (λ (x : ℕ). digit x g) e ∙ digit_none g))

      go : (b : Bool) → allowed rs taken ≡ b → Seeks (Fits n rs) held (cond b (Ok taken) (Err held))
      go true a = ((P.taken_in, a), R.trial, λ z f i. omega (arith, only z f i))
      go false a = (inside_refl held, λ z f i. clash (allowed rs taken) (ap (allowed rs) (sym (only z f i)) ∙ f.1) a)

-- ---- a group taken by trial
above : (x y g : ℕ) → ((j : ℕ) → g < j → digit x j ≡ digit y j) → x / 2 ^ suc g ≡ y / 2 ^ suc g
above x y g f = digits_same (x / 2 ^ suc g) (y / 2 ^ suc g) (λ j. moved x j ∙ f (suc g + j) (omega arith) ∙ sym (moved y j))
  where
    moved : (z j : ℕ) → digit (z / 2 ^ suc g) j ≡ digit z (suc g + j)
    moved z j = Rattle.rounds.proofs.Digits.digit_over z (suc g) j

pub lower : (x y g : ℕ) → ((j : ℕ) → g < j → digit x j ≡ digit y j) → digit x g ≡ 0 → digit y g ≡ 1 → x < y
lower x y g f d e = Rattle.rounds.proofs.Digits.over_lt x y g (above x y g f) d e

module _ (c g : ℕ) where
  pub lacks_bit : bit_and c (2 ^ g) ≡ 0 → digit c g ≡ 0
  lacks_bit e = omega (arith, digit_both c (2 ^ g) g, ap (λ (x : ℕ). digit x g) e, digit_none g, digit_pow g, digit_lt c g)

  pub has_bit : bit_and c (2 ^ g) ≢ 0 → digit c g ≡ 1
  has_bit o = go (digit_or c g)
    where
      none : digit c g ≡ 0 → (j : ℕ) → Dec (j ≡ g) → digit (bit_and c (2 ^ g)) j ≡ digit 0 j
      none d j (yes e) = rw e (omega (arith, digit_both c (2 ^ g) g, digit_none g))
      none d j (no q) = omega (arith, digit_both c (2 ^ g) j, digit_pow_other g j q, digit_none j)

      go : (digit c g ≡ 0) ⊎ (digit c g ≡ 1) → digit c g ≡ 1
      go (inr d) = d
      go (inl d) = absurd (o (digits_same (bit_and c (2 ^ g)) 0 (λ j. none d j (ℕ_discrete j g))))

module _ (n : ℕ) (rs : List Record) (held taken left free g : ℕ) (why : List ℕ) (P : Parts n taken left free) (R : Reasons (Fits n rs) held taken left why) (H : Highest free g) where
  held_not : digit held g ≡ 0
  held_not = omega (arith, R.trial g, free_taken n taken left free P g H.in_it)

  pub trial_parts : Parts n (taken + 2 ^ g) left (free - 2 ^ g)
  trial_parts = parts_take n taken left free P g H.in_it

  pub trial_held : Inside (held + 2 ^ g) (taken + 2 ^ g)
  trial_held j = both (ℕ_discrete j g)
    where
      both : Dec (j ≡ g) → digit (held + 2 ^ g) j ≤ digit (taken + 2 ^ g) j
      both (yes e) = rw e (omega (arith, add_same held g held_not, add_same taken g (free_taken n taken left free P g H.in_it)))
      both (no o) = omega (arith, add_other held g j held_not o, add_other taken g j (free_taken n taken left free P g H.in_it) o, R.trial j)

  pub trial_reasons : g < length why → Reasons (Fits n rs) (held + 2 ^ g) (taken + 2 ^ g) left (set why g (2 ^ g))
  trial_reasons h =
      reasons_take n (Fits n rs) held taken left free why P R g (2 ^ g) H.in_it h (held + 2 ^ g) (inside_add held g held_not)
      trial_held (λ j. bit j (ℕ_discrete j g)) (λ z f i. omega (arith, i g, digit_pow g, digit_lt z g))
    where
      bit : (j : ℕ) → Dec (j ≡ g) → digit (2 ^ g) j ≤ digit (held + 2 ^ g) j
      bit j (yes e) = rw e (omega (arith, digit_pow g, add_same held g held_not))
      bit j (no o) = omega (arith, digit_pow_other g j o)

  pub trial_found : (s : ℕ) → Seeks (Fits n rs) (held + 2 ^ g) (Ok s) → Seeks (Fits n rs) held (Ok s)
  trial_found s F = (F.0, under, λ z f i. most z f i (digit_or z g))
    where
      under : Inside held s
      under = inside_trans held (held + 2 ^ g) s (inside_add held g held_not) F.1

      most : (z : ℕ) → Fits n rs z → Inside held z → (digit z g ≡ 0) ⊎ (digit z g ≡ 1) → z ≤ s
      most z f i (inr d) = F.2 z f (add_inside held z g held_not i d)
      most z f i (inl d) =
          let l : z < s = lower z s g
          (λ j h. alike n rs held taken left free why P R z f i j (H.none_above j h) ∙ sym (alike n rs held taken left free why P R s F.0 under j (H.none_above j h)))
          d (omega (arith, F.1 g, add_same held g held_not, digit_lt s g)) in
          omega arith

  module _ (c : ℕ) (C : Rules (Fits n rs) (held + 2 ^ g) c) where
    pub trial_jump : digit c g ≡ 0 → Rules (Fits n rs) held c
    trial_jump d = ((λ j. go j (ℕ_discrete j g)), C.1)
      where
        go : (j : ℕ) → Dec (j ≡ g) → digit c j ≤ digit held j
        go j (yes e) = rw e (omega (arith, d))
        go j (no o) = omega (arith, C.0 j, add_other held g j held_not o)

    -- `after` are the reasons that the trial left
    pub trial_out : (after : List ℕ) → digit c g ≡ 1 → length after ≡ length why → g < length why → ((j : ℕ) → digit free j ≡ 0 → get_or after j 0 ≡ get_or why j 0)
        → Reasons (Fits n rs) held taken (left + 2 ^ g) (set after g (c - 2 ^ g))
    trial_out after d long h s =
        reasons_leave n (Fits n rs) held taken left free after P (reasons_same n (Fits n rs) held taken left free why P R after s) g (c - 2 ^ g) H.in_it (omega (arith, long))
        (λ j. less j (ℕ_discrete j g)) (λ z f i. out z f i (digit_or z g))
      where
        less : (j : ℕ) → Dec (j ≡ g) → digit (c - 2 ^ g) j ≤ digit held j
        less j (yes e) = rw e (omega (arith, less_same c g d))
        less j (no o) = omega (arith, less_other c g j d o, C.0 j, add_other held g j held_not o)

        whole : (z : ℕ) → Inside (c - 2 ^ g) z → digit z g ≡ 1 → (j : ℕ) → Dec (j ≡ g) → digit c j ≤ digit z j
        whole z i e j (yes q) = rw q (omega (arith, d, e))
        whole z i e j (no o) = omega (arith, less_other c g j d o, i j)

        out : (z : ℕ) → Fits n rs z → Inside (c - 2 ^ g) z → (digit z g ≡ 0) ⊎ (digit z g ≡ 1) → digit z g ≡ 0
        out z f i (inl e) = e
        out z f i (inr e) = absurd (C.1 z f (λ j. whole z i e j (ℕ_discrete j g)))

  pub out_parts : Parts n taken (left + 2 ^ g) (free - 2 ^ g)
  out_parts = parts_swap n (left + 2 ^ g) taken (free - 2 ^ g) (parts_take n left taken free (parts_swap n taken left free P) g H.in_it)

-- ---- one step of the search, as code makes it: b is the highest free group's bit, `why` are the reasons before it
pub record Step (n : ℕ) (rs : List Record) (held taken left free g b : ℕ) (why : List ℕ) : Type 0 where
  pub parts : Parts n taken left free
  pub reasons : Reasons (Fits n rs) held taken left why
  pub highest : Highest free g
  pub is_bit : b ≡ 2 ^ g

module _ {n : ℕ} {rs : List Record} {held taken left free g b : ℕ} {why : List ℕ} (S : Step n rs held taken left free g b why) where
  pub step_fits : (held + b < 2 ^ n) × (taken + b < 2 ^ n) × (left + b < 2 ^ n) × (b ≤ free) × (0 < b)
  step_fits = rw S.is_bit (
    (let q = inside_le (held + 2 ^ g) (taken + 2 ^ g) (trial_held n rs held taken left free g why S.parts S.reasons S.highest) in
        omega (arith, q, (trial_parts n rs held taken left free g why S.parts S.reasons S.highest).taken_in)),
    (trial_parts n rs held taken left free g why S.parts S.reasons S.highest).taken_in,
    (out_parts n rs held taken left free g why S.parts S.reasons S.highest).left_in,
    pow_le free g S.highest.in_it,
    pow_pos g,
  )

  -- a sum of choices of the groups fits a word that has room for them
  pub step_wide : n ≤ 32 → (held + b < 2 ^ 32) × (taken + b < 2 ^ 32) × (left + b < 2 ^ 32)
  step_wide h =
      let q = step_fits in
      let m = pow_mono {i = n} {j = 32} h in
      (omega (arith, q.0, m), omega (arith, q.1, m), omega (arith, q.2, m))

  pub step_in : n ≤ length why → Parts n (taken + b) left (free - b) × Reasons (Fits n rs) (held + b) (taken + b) left (set why g b)
  step_in h =
      rw S.is_bit (
        trial_parts n rs held taken left free g why S.parts S.reasons S.highest,
        trial_reasons n rs held taken left free g why S.parts S.reasons S.highest (omega (arith, free_below n taken left free S.parts g S.highest.in_it)),
      )

  pub step_found : (s : ℕ) → Seeks (Fits n rs) (held + b) (Ok s) → Seeks (Fits n rs) held (Ok s)
  step_found s F = trial_found n rs held taken left free g why S.parts S.reasons S.highest s (subst (λ (x : ℕ). Seeks (Fits n rs) (held + x) (Ok s)) S.is_bit F)

  module _ (c : ℕ) (C : Rules (Fits n rs) (held + b) c) where
    ruled : Rules (Fits n rs) (held + 2 ^ g) c
    ruled = subst (λ (x : ℕ). Rules (Fits n rs) (held + x) c) S.is_bit C

    pub step_jump : bit_and c b ≡ 0 → Rules (Fits n rs) held c
    step_jump q = trial_jump n rs held taken left free g why S.parts S.reasons S.highest c ruled (lacks_bit c g (subst (λ (x : ℕ). bit_and c x ≡ 0) S.is_bit q))

    pub step_less : bit_and c b ≢ 0 → b ≤ c
    step_less q = rw S.is_bit (pow_le c g (has_bit c g (subst (λ (x : ℕ). bit_and c x ≢ 0) S.is_bit q)))

    pub step_out : (after : List ℕ) → bit_and c b ≢ 0 → n ≤ length why → Same (free - b) (set why g b) after
        → Parts n taken (left + b) (free - b) × Reasons (Fits n rs) held taken (left + b) (set after g (c - b))
    step_out after q h T =
        rw S.is_bit (
          out_parts n rs held taken left free g why S.parts S.reasons S.highest,
          trial_out n rs held taken left free g why S.parts S.reasons S.highest c ruled after (has_bit c g (subst (λ (x : ℕ). bit_and c x ≢ 0) S.is_bit q)) (T.long ∙ length-set why g b)
              (omega (arith, free_below n taken left free S.parts g S.highest.in_it))
              (λ j d. T.rest j (rw S.is_bit (less_free n taken left free S.parts g S.highest.in_it j d))
              ∙ get_or-set_other why g j b 0 (λ w. omega (arith, S.highest.in_it, ap (digit free) (sym w) ∙ d))),
        )

  -- the reasons that stay, where that of the group g changed first
  pub step_same : (old mid after : List ℕ) (wide c : ℕ) → ((j : ℕ) → digit wide j ≡ 0 → digit free j ≡ 0) → Same wide old mid → Same (free - b) (set mid g c) after → Same wide old after
  step_same old mid after wide c w M T =
      same_trans wide old mid after M
      (same_wider wide free mid after w
      (same_trans free mid (set mid g c) after (same_set free g c mid S.highest.in_it)
      (same_wider free (free - b) (set mid g c) after (λ j d. rw S.is_bit (less_free n taken left free S.parts g S.highest.in_it j d)) T)))
