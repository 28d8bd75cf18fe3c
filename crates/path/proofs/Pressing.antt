-- Laws of what one record decides, as code finds it.
--   gather_start, gather_step, gather_end         what is gathered, group by group
--   same_refl, same_trans, same_wider, same_set   the reasons of groups that are not free stay
--   press_shut, press_last   all groups of a record are on its side; all but one are
--   narrows_none, narrows_explanation, narrows_repair      what a record decides: nothing, or its last group, by its kind
--   record_shut, record_last      the same, as pressing answers it
--   then_same, narrows_then, closing_then      one record after the other
--   closing_same             the reasons of groups that are not free stay, whatever is answered
-- Assumes nothing.
use Prim.Native.Nat.{ℕ, ◌+◌, ◌-◌, ◌^◌, ◌≤◌, ◌<◌}
use mathlib.Core.Path.{◌≡◌, refl, sym, ap, ◌∙◌, subst}
use mathlib.Core.Logic.{◌⊎◌, inl, inr}
use mathlib.Core.List.{List}
use native.Mathlib.Omega.{arith}
use native.Mathlib.Decide.{ℕ_discrete}
use lib.Bits.{bit_and, bit_or, and_le_l}
use lib.ListN.{length, get_or, set, length-set}
use lib.Seq.{get_or-set_other}
use Rattle.meaning.specs.Choice.{digit, Inside}
use Rattle.meaning.proofs.Choices.{digit_lt, digit_or, digit_none}
use Rattle.rounds.proofs.Digits.{digit_both, digit_either, add_other, less_same, less_other, less_inside, inside_refl, inside_trans, inside_antisym, inside_add, none_inside, and_inside}
use Rattle.std.proofs.Common.{Some, Result, Ok, Err}
use Rattle.records.specs.declared.Kind.{Kind}
use Rattle.records.specs.declared.Kind.TheVariants.{Explanation, Repair}
use Rattle.path.specs.Paths.{Bars, Parts, Decides, Reasons, Rules, against, decided, gathered, Same, Last, Pressing, Narrows, Closing}
use Rattle.path.specs.declared.Sides.{Sides}
use Rattle.path.proofs.Paths.{barred, gathered_holds, gathered_inside, shut_rules, last_decides, parts_swap, parts_take, free_below, free_taken, less_free, reasons_take, reasons_leave}

-- ---- what is gathered: `all` is what the groups of the set that are not in `rest` rest on
pub record Gathering (why : List ℕ) (set n rest all : ℕ) : Type 0 where
  pub left : Inside rest set
  pub within : Inside all (gathered why set n)
  pub holds : (g : ℕ) → digit set g ≡ 1 → digit rest g ≡ 0 → Inside (get_or why g 0) all

module _ (why : List ℕ) (set n : ℕ) where
  pub gather_start : Gathering why set n set 0
  gather_start = record { left = inside_refl set; within = none_inside (gathered why set n); holds = λ g d o. absurd (omega (arith, d, o)) }

  pub gather_end : (all : ℕ) → Gathering why set n 0 all → all ≡ gathered why set n
  gather_end all G = inside_antisym all (gathered why set n) G.within (gathered_inside why set all n (λ g d. G.holds g d (digit_none g)))

  pub gather_step : (rest all g : ℕ) → g < n → digit rest g ≡ 1 → Gathering why set n rest all → Gathering why set n (rest - 2 ^ g) (bit_or all (get_or why g 0))
  gather_step rest all g h d G =
      record {
        left = inside_trans (rest - 2 ^ g) rest set (less_inside rest g d) G.left;
        within = λ j. omega (arith, digit_either all (get_or why g 0) j, G.within j, gathered_holds why set n g h in_set j);
        holds = λ k e o. held k e o (ℕ_discrete k g);
      }
    where
      in_set : digit set g ≡ 1
      in_set = omega (arith, G.left g, d, digit_lt set g)

      held : (k : ℕ) → digit set k ≡ 1 → digit (rest - 2 ^ g) k ≡ 0 → Dec (k ≡ g) → Inside (get_or why k 0) (bit_or all (get_or why g 0))
      held k e o (yes q) j = rw q (omega (arith, digit_either all (get_or why g 0) j))
      held k e o (no q) j = omega (arith, digit_either all (get_or why g 0) j, G.holds k e (sym (less_other rest g k d q) ∙ o) j)

-- ---- reasons that stay
pub same_refl : (free : ℕ) (why : List ℕ) → Same free why why
same_refl free why = record { long = refl; rest = λ g d. refl }

pub same_trans : (free : ℕ) (a b c : List ℕ) → Same free a b → Same free b c → Same free a c
same_trans free a b c s t = record { long = t.long ∙ s.long; rest = λ g d. t.rest g d ∙ s.rest g d }

pub same_wider : (free f : ℕ) (a b : List ℕ) → ((g : ℕ) → digit free g ≡ 0 → digit f g ≡ 0) → Same f a b → Same free a b
same_wider free f a b w s = record { long = s.long; rest = λ g d. s.rest g (w g d) }

pub same_set : (free g c : ℕ) (why : List ℕ) → digit free g ≡ 1 → Same free why (set why g c)
same_set free g c why d = record { long = length-set why g c; rest = λ j e. get_or-set_other why g j c 0 (λ q. omega (arith, d, ap (digit free) (sym q) ∙ e)) }

-- ---- what one record decides
module _ (n set side free : ℕ) where
  pub press_shut : set - bit_and set side ≡ 0 → (bit_and set side ≡ set) × Inside set side
  press_shut e = let q : bit_and set side ≡ set = omega (arith, and_le_l set side) in (q, (and_inside set side).0 q)

  pub press_last : (g : ℕ) → set < 2 ^ n → 2 ^ g ≡ set - bit_and set side → digit free g ≡ 1 → Last n set side free g
  press_last g h e d =
      record {
        within = h;
        is_free = d;
        others = λ j q o. omega (arith, digit_lt side j, digit_both set side j, q, ap (λ (x : ℕ). digit x j) whole, add_other (bit_and set side) g j (apart (digit_or set g)) o);
      }
    where
      whole : set ≡ bit_and set side + 2 ^ g
      whole = omega (arith, e, and_le_l set side)

      apart : (digit set g ≡ 0) ⊎ (digit set g ≡ 1) → digit (bit_and set side) g ≡ 0
      apart (inl o) = omega (arith, digit_both set side g)
      apart (inr i) = ap (λ (x : ℕ). digit x g) (let q : bit_and set side ≡ set - 2 ^ g = omega (arith, whole) in q) ∙ less_same set g i

module _ (n : ℕ) (Fit : ℕ → Type 0) (set taken left free : ℕ) (why : List ℕ) (P : Parts n taken left free) where
  pub narrows_none : Narrows n Fit taken left free why free taken left why
  narrows_none = record { parts = P; fewer = omega arith; inside = λ g d. d; reasons = λ held R. R }

  module _ (g : ℕ) (h : n ≤ length why) where
    pub narrows_explanation : Bars Fit set 1 → Last n set taken free g
        → Narrows n Fit taken left free why (free - 2 ^ g) taken (left + 2 ^ g) (lib.ListN.set why g (gathered why (bit_and set taken) n))
    narrows_explanation B L =
        record {
          parts = parts_swap n (left + 2 ^ g) taken (free - 2 ^ g) (parts_take n left taken free (parts_swap n taken left free P) g L.is_free);
          fewer = omega arith;
          inside = less_free n taken left free P g L.is_free;
          reasons = λ held R.
              let D = last_decides Fit n held taken set 1 why R.takes B g 0 free refl L in
              reasons_leave n Fit held taken left free why P R g (gathered why (bit_and set taken) n) L.is_free (omega (arith, free_below n taken left free P g L.is_free)) D.0 D.1;
        }

    pub narrows_repair : Bars Fit set 0 → Last n set left free g → Narrows n Fit taken left free why (free - 2 ^ g) (taken + 2 ^ g) left (lib.ListN.set why g (gathered why (bit_and set left) n))
    narrows_repair B L =
        record {
          parts = parts_take n taken left free P g L.is_free;
          fewer = omega arith;
          inside = less_free n taken left free P g L.is_free;
          reasons = λ held R.
              let D = last_decides Fit n held left set 0 why R.leaves B g 1 free refl L in
              reasons_take n Fit held taken left free why P R g (gathered why (bit_and set left) n) L.is_free (omega (arith, free_below n taken left free P g L.is_free)) held (inside_refl held)
              (inside_trans held taken (taken + 2 ^ g) R.trial (inside_add taken g (free_taken n taken left free P g L.is_free))) D.0 D.1;
        }

-- ---- one record after the other
module _ (n : ℕ) (Fit : ℕ → Type 0) (taken left free : ℕ) (why : List ℕ) (f t l : ℕ) (mid : List ℕ) (N : Narrows n Fit taken left free why f t l mid) (S : Same free why mid) where
  pub then_same : (after : List ℕ) → Same f mid after → Same free why after
  then_same after s = same_trans free why mid after S (same_wider free f mid after N.inside s)

  pub narrows_then : (f' t' l' : ℕ) (after : List ℕ) → Narrows n Fit t l f mid f' t' l' after → Narrows n Fit taken left free why f' t' l' after
  narrows_then f' t' l' after M =
      record {
        parts = M.parts;
        fewer = omega (arith, M.fewer, N.fewer);
        inside = λ g d. M.inside g (N.inside g d);
        reasons = λ held R. M.reasons held (N.reasons held R);
      }

  pub closing_then : (r : Result Sides ℕ) (after : List ℕ) → Closing n Fit t l f mid r after → Closing n Fit taken left free why r after
  closing_then (Err c) after p = (then_same after p.0, λ held R. p.1 held (N.reasons held R))
  closing_then (Ok s) after p = (then_same after p.0, narrows_then s.free s.taken s.left after p.1)

pub closing_same : (n : ℕ) (Fit : ℕ → Type 0) (taken left free : ℕ) (why : List ℕ) (r : Result Sides ℕ) (after : List ℕ) → Closing n Fit taken left free why r after → Same free why after
closing_same n Fit taken left free why (Err c) after p = p.0
closing_same n Fit taken left free why (Ok s) after p = p.0

-- ---- the same, as pressing answers it
module _ (n : ℕ) (Fit : ℕ → Type 0) (set : ℕ) (s : Sides) (why after : List ℕ) (P : Parts n s.taken s.left s.free) where
  moved : (g c : ℕ) → digit s.free g ≡ 1 → after ≡ lib.ListN.set why g c → Same s.free why after
  moved g c d e = subst (Same s.free why) (sym e) (same_set s.free g c why d)

  decides : (k : Kind) (held : ℕ) → Reasons Fit held s.taken s.left why → Decides Fit held (against k s) why (barred k)
  decides Explanation held R = R.takes
  decides Repair held R = R.leaves

  narrows : (k : Kind) (g : ℕ) → n ≤ length why → Bars Fit set (barred k) → Last n set (against k s) s.free g → let r = decided k g s in
      Narrows n Fit s.taken s.left s.free why r.free r.taken r.left (lib.ListN.set why g (gathered why (bit_and set (against k s)) n))
  narrows Explanation g h B L = narrows_explanation n Fit set s.taken s.left s.free why P g h B L
  narrows Repair g h B L = narrows_repair n Fit set s.taken s.left s.free why P g h B L

  -- a record whose groups cannot all have the value v, decided on a side
  rules : (side v c : ℕ) → Bars Fit set v → Pressing n set side s.free why (Err c) after → (held : ℕ) → Decides Fit held side why v → Rules Fit held c
  rules side v c B p held D = subst (Rules Fit held) (sym p.2) (shut_rules Fit n held side set v why D B p.0 p.1)

  module _ (k : Kind) (side : ℕ) (e : side ≡ against k s) (B : Bars Fit set (barred k)) where
    pub record_shut : (c : ℕ) → Pressing n set side s.free why (Err c) after → Closing n Fit s.taken s.left s.free why (Err c) after
    record_shut c p =
        (subst (Same s.free why) (sym p.3) (same_refl s.free why), λ held R. rules side (barred k) c B p held (subst (λ (x : ℕ). Decides Fit held x why (barred k)) (sym e) (decides k held R)))

    pub record_last : (g : ℕ) → n ≤ length why → Pressing n set side s.free why (Ok (Some g)) after → Closing n Fit s.taken s.left s.free why (Ok (decided k g s)) after
    record_last g h p =
        let q = subst (λ (x : ℕ). Pressing n set x s.free why (Ok (Some g)) after) e p in
        (moved g (gathered why (bit_and set (against k s)) n) q.0.is_free q.1, rw q.1 (narrows k g h B q.0))
