-- Laws of the path, for any number of groups and any reading of what fits.
--   gathered_holds, gathered_inside               what is gathered contains each reason, and lies in what contains all of them
--   barred, bars_record            what a listed record bars, by its kind
--   shut_rules                     a record all of whose groups are on its side rules the path out
--   last_decides                   a record all of whose groups but one are on its side decides the last one
--   decides_more, decides_same     decided groups: one more, and with other reasons
--   free_below, free_taken, free_left, less_free      a free group: one of the groups, not taken, not left; without it no other one is free
--   free_fits                      a word has room for the sides with a free group
--   parts_take, parts_swap         groups taken, left and free: one is taken; what is taken and what is left change places
--   reasons_take, reasons_leave, reasons_same     the reasons, likewise
-- Assumes nothing.
use Prim.Native.Nat.{ℕ, zero, suc, ◌+◌, ◌-◌, ◌^◌, ◌≤◌, ◌<◌}
use mathlib.Core.Path.{◌≡◌, refl, sym, ap, ◌∙◌, subst}
use mathlib.Core.Logic.{◌⊎◌, inl, inr, ◌≢◌}
use mathlib.Core.List.{List}
use mathlib.Core.Bool.{Bool, true, false, cond}
use native.Mathlib.Omega.{arith}
use native.Mathlib.Decide.{ℕ_discrete}
use lib.Dec.{eqb}
use lib.Pow.{pow_mono}
use lib.Bits.{bit_and, bit_or}
use lib.ListN.{length, get_or, set}
use lib.Seq.{get_or-set_same, get_or-set_other}
use borrow.Author.Tests.{eqb-true, eqb-false}
use Rattle.meaning.specs.Choice.{digit, Inside}
use Rattle.meaning.proofs.Choices.{digit_lt, digit_or, digit_none}
use Rattle.rounds.specs.Records.{Record, explains, repairs, allows}
use Rattle.rounds.proofs.Digits.{digit_in, digit_both, digit_either, add_same, add_other, add_lt, pow_le, less_same, less_other, inside_refl, inside_trans, less_inside}
use Rattle.rounds.proofs.Seeds.{allowed_at, explains_allows, repairs_allows}
use Rattle.records.specs.Words.{kind_at, set_at, record_from, records_of, kind_is}
use Rattle.records.specs.declared.Kind.{Kind}
use Rattle.records.specs.declared.Kind.TheVariants.{Explanation, Repair}
use Rattle.records.proofs.Words.{record_in}
use Rattle.path.specs.Paths.{Fits, Bars, Parts, Decides, Reasons, Rules, gathered, Last}

-- ---- what is gathered
pub gathered_holds : (why : List ℕ) (x k g : ℕ) → g < k → digit x g ≡ 1 → Inside (get_or why g 0) (gathered why x k)
unfolding gathered
gathered_holds why x zero g h d = absurd (omega arith)
gathered_holds why x (suc k) g h d = go (eqb (digit x k) 1) refl (ℕ_discrete g k) (λ l. gathered_holds why x k g l d)
  where
    go : (b : Bool) → eqb (digit x k) 1 ≡ b → Dec (g ≡ k) → (g < k → Inside (get_or why g 0) (gathered why x k))
        → Inside (get_or why g 0) (cond b (bit_or (gathered why x k) (get_or why k 0)) (gathered why x k))
    go true e (yes q) ih = λ j. rw q (omega (arith, digit_either (gathered why x k) (get_or why k 0) j))
    go true e (no q) ih = λ j. omega (arith, digit_either (gathered why x k) (get_or why k 0) j, ih (omega arith) j)
    go false e (yes q) ih = absurd (eqb-false (digit x k) 1 e (ap (digit x) (sym q) ∙ d))
    go false e (no q) ih = ih (omega arith)

pub gathered_inside : (why : List ℕ) (x h k : ℕ) → ((g : ℕ) → digit x g ≡ 1 → Inside (get_or why g 0) h) → Inside (gathered why x k) h
unfolding gathered
gathered_inside why x h zero f = λ j. omega (arith, digit_none j)
gathered_inside why x h (suc k) f = go (eqb (digit x k) 1) refl (gathered_inside why x h k f)
  where
    go : (b : Bool) → eqb (digit x k) 1 ≡ b → Inside (gathered why x k) h → Inside (cond b (bit_or (gathered why x k) (get_or why k 0)) (gathered why x k)) h
    go true e ih = λ j. omega (arith, digit_either (gathered why x k) (get_or why k 0) j, ih j, f k (eqb-true (digit x k) 1 e) j)
    go false e ih = ih

-- ---- records
abbrev pub barred : Kind → ℕ
barred Explanation = 1
barred Repair = 0

module _ (n : ℕ) (ws : List ℕ) (c i : ℕ) (h : i < c) where
  listed : (r : Record) → r ≡ record_from (kind_at ws i) (set_at ws i) → (z : ℕ) → Fits n (records_of ws c) z → allows r z ≡ true
  listed r e z f = ap (λ (q : Record). allows q z) e ∙ allowed_at (records_of ws c) z (record_from (kind_at ws i) (set_at ws i)) f.1 (record_in ws c i h)

  pub bars_record : (k : Kind) (s : ℕ) → kind_is k s ≡ record_from (kind_at ws i) (set_at ws i) → Bars (Fits n (records_of ws c)) s (barred k)
  bars_record Explanation s e z f a = (explains_allows s z).0 (listed (explains s) e z f) (λ g. inside g (digit_or s g))
    where
      inside : (g : ℕ) → (digit s g ≡ 0) ⊎ (digit s g ≡ 1) → digit s g ≤ digit z g
      inside g (inl d) = omega arith
      inside g (inr d) = omega (arith, a g d)
  bars_record Repair s e z f a =
      let m = (repairs_allows s z).0 (listed (repairs s) e z f) in
      absurd (omega (arith, a m.0 m.1.0, m.1.1))

module _ (Fit : ℕ → Type 0) (n held side set v : ℕ) (why : List ℕ) (D : Decides Fit held side why v) (B : Bars Fit set v) where
  pub shut_rules : set < 2 ^ n → Inside set side → Rules Fit held (gathered why set n)
  shut_rules h s = (
    gathered_inside why set held n (λ g d. (D g (on g d)).0),
    λ z f i. B z f (λ g d. (D g (on g d)).1 z f (inside_trans (get_or why g 0) (gathered why set n) z (gathered_holds why set n g (digit_in n set g h d) d) i)),
  )
    where
      on : (g : ℕ) → digit set g ≡ 1 → digit side g ≡ 1
      on g d = omega (arith, s g, digit_lt side g)

  -- the last group cannot have the value too
  pub last_decides : (g u free : ℕ) → u + v ≡ 1 → Last n set side free g
      → Inside (gathered why (bit_and set side) n) held × ((z : ℕ) → Fit z → Inside (gathered why (bit_and set side) n) z → digit z g ≡ u)
  last_decides g u free e L = (
    gathered_inside why (bit_and set side) held n (λ j d. (D j (omega (arith, digit_both set side j, d, digit_lt side j))).0),
    λ z f i. omega (arith, digit_lt z g, differs z f i, e),
  )
    where
      differs : (z : ℕ) → Fit z → Inside (gathered why (bit_and set side) n) z → digit z g ≢ v
      differs z f i q = B z f (λ j d. pick j d (ℕ_discrete j g))
        where
          pick : (j : ℕ) → digit set j ≡ 1 → Dec (j ≡ g) → digit z j ≡ v
          pick j d (yes w) = ap (digit z) w ∙ q
          pick j d (no w) =
              let s : digit side j ≡ 1 = L.others j d w in
              let m : digit (bit_and set side) j ≡ 1 = omega (arith, digit_both set side j) in
              (D j s).1 z f (inside_trans (get_or why j 0) (gathered why (bit_and set side) n) z (gathered_holds why (bit_and set side) n j (digit_in n set j L.within d) m) i)

-- ---- decided groups
module _ (Fit : ℕ → Type 0) (held held' set v : ℕ) (why : List ℕ) (D : Decides Fit held set why v) (w : Inside held held') where
  -- with other reasons for groups that are not in the set
  pub decides_same : (why' : List ℕ) → ((g : ℕ) → digit set g ≡ 1 → get_or why' g 0 ≡ get_or why g 0) → Decides Fit held' set why' v
  decides_same why' s g d =
      let e : get_or why g 0 ≡ get_or why' g 0 = sym (s g d) in
      (subst (λ (y : ℕ). Inside y held') e (inside_trans (get_or why g 0) held held' (D g d).0 w), λ z f i. (D g d).1 z f (subst (λ (y : ℕ). Inside y z) (sym e) i))

  -- one group more
  pub decides_more : (g c : ℕ) → g < length why → digit set g ≡ 0 → Inside c held' → ((z : ℕ) → Fit z → Inside c z → digit z g ≡ v) → Decides Fit held' (set + 2 ^ g) (lib.ListN.set why g c) v
  decides_more g c h q i f j d = go (ℕ_discrete j g)
    where
      go : Dec (j ≡ g) → Inside (get_or (lib.ListN.set why g c) j 0) held' × ((z : ℕ) → Fit z → Inside (get_or (lib.ListN.set why g c) j 0) z → digit z j ≡ v)
      go (yes e) =
          let k : c ≡ get_or (lib.ListN.set why g c) j 0 = sym (ap (λ (m : ℕ). get_or (lib.ListN.set why g c) m 0) e ∙ get_or-set_same why g c 0 h) in
          (subst (λ (y : ℕ). Inside y held') k i, λ z a b. ap (digit z) e ∙ f z a (subst (λ (y : ℕ). Inside y z) (sym k) b))
      go (no o) = decides_same (lib.ListN.set why g c) (λ m y. get_or-set_other why g m c 0 (λ e. omega (arith, q, ap (digit set) (sym e) ∙ y))) j (sym (add_other set g j q o) ∙ d)

-- ---- groups taken, left and free
module _ (n taken left free : ℕ) (P : Parts n taken left free) where
  pub parts_swap : Parts n left taken free
  parts_swap = record { taken_in = P.left_in; left_in = P.taken_in; free_in = P.free_in; one = λ g h. omega (arith, P.one g h) }

  module _ (g : ℕ) (d : digit free g ≡ 1) where
    pub free_below : g < n
    free_below = digit_in n free g P.free_in d

    pub free_taken : digit taken g ≡ 0
    free_taken = omega (arith, P.one g free_below)

    pub free_left : digit left g ≡ 0
    free_left = omega (arith, P.one g free_below)

    -- a word has room for the sides with it
    pub free_fits : n ≤ 32 → (g < 32) × (2 ^ g ≤ free) × (taken + 2 ^ g < 2 ^ 32) × (left + 2 ^ g < 2 ^ 32)
    free_fits h =
        let m = pow_mono {i = n} {j = 32} h in (
          omega (arith, free_below),
          pow_le free g d,
          omega (arith, m, add_lt n taken g P.taken_in free_below free_taken),
          omega (arith, m, add_lt n left g P.left_in free_below free_left),
        )

    pub parts_take : Parts n (taken + 2 ^ g) left (free - 2 ^ g)
    parts_take =
        record {
          taken_in = add_lt n taken g P.taken_in free_below free_taken;
          left_in = P.left_in;
          free_in = omega (arith, P.free_in);
          one = λ j h. go j h (ℕ_discrete j g);
        }
      where
        go : (j : ℕ) → j < n → Dec (j ≡ g) → digit (taken + 2 ^ g) j + digit left j + digit (free - 2 ^ g) j ≡ 1
        go j h (yes e) = rw e (omega (arith, add_same taken g free_taken, less_same free g d, free_left))
        go j h (no o) = omega (arith, add_other taken g j free_taken o, less_other free g j d o, P.one j h)

    pub less_free : (j : ℕ) → digit free j ≡ 0 → digit (free - 2 ^ g) j ≡ 0
    less_free j q = omega (arith, less_inside free g d j)

-- ---- the reasons
module _ (n : ℕ) (Fit : ℕ → Type 0) (held taken left free : ℕ) (why : List ℕ) (P : Parts n taken left free) (R : Reasons Fit held taken left why) where
  -- other reasons for free groups
  pub reasons_same : (why' : List ℕ) → ((g : ℕ) → digit free g ≡ 0 → get_or why' g 0 ≡ get_or why g 0) → Reasons Fit held taken left why'
  reasons_same why' s =
      record {
        trial = R.trial;
        takes = decides_same Fit held held taken 1 why R.takes (inside_refl held) why' (λ g d. s g (taken_not g d));
        leaves = decides_same Fit held held left 0 why R.leaves (inside_refl held) why' (λ g d. s g (left_not g d));
      }
    where
      taken_not : (g : ℕ) → digit taken g ≡ 1 → digit free g ≡ 0
      taken_not g d = omega (arith, P.one g (digit_in n taken g P.taken_in d))

      left_not : (g : ℕ) → digit left g ≡ 1 → digit free g ≡ 0
      left_not g d = omega (arith, P.one g (digit_in n left g P.left_in d))

  module _ (g c : ℕ) (d : digit free g ≡ 1) (long : g < length why) where
    off : (j : ℕ) (x : ℕ) → digit x g ≡ 0 → digit x j ≡ 1 → get_or (set why g c) j 0 ≡ get_or why j 0
    off j x q e = get_or-set_other why g j c 0 (λ w. omega (arith, q, ap (digit x) (sym w) ∙ e))

    pub reasons_take : (held' : ℕ) → Inside held held' → Inside held' (taken + 2 ^ g) → Inside c held' → ((z : ℕ) → Fit z → Inside c z → digit z g ≡ 1)
        → Reasons Fit held' (taken + 2 ^ g) left (set why g c)
    reasons_take held' w t i f =
        record {
          trial = t;
          takes = decides_more Fit held held' taken 1 why R.takes w g c long (free_taken n taken left free P g d) i f;
          leaves = decides_same Fit held held' left 0 why R.leaves w (set why g c) (λ j e. off j left (free_left n taken left free P g d) e);
        }

    pub reasons_leave : Inside c held → ((z : ℕ) → Fit z → Inside c z → digit z g ≡ 0) → Reasons Fit held taken (left + 2 ^ g) (set why g c)
    reasons_leave i f =
        record {
          trial = R.trial;
          takes = decides_same Fit held held taken 1 why R.takes (inside_refl held) (set why g c) (λ j e. off j taken (free_taken n taken left free P g d) e);
          leaves = decides_more Fit held held left 0 why R.leaves (inside_refl held) g c long (free_left n taken left free P g d) i f;
        }
