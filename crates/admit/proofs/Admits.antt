-- What stands before a call on a book and a choice: the tests, and what they say.
--   lack_here, lack_next, lack_none      one group of the choice, and no more
--   Lacks, lacking_is                    the group that is given is the lowest that the choice names and the book lacks; none is given where there is none
--   admit_refused, admit_lacks, admit_has      the three ways
--   admitted_one                         what a result is as an answer, and the bytes that its book holds, determine it
--   admits_read                          a book that is admitted was read
--   choice_fits                          and the choice names groups of the book only
--   cleared_again, cleared_over          a space that was used, cleared: what stands behind is as it was; its front was used
-- Assumes nothing.
use Prim.Native.Nat.{ℕ, zero, suc, ◌+◌, ◌-◌, ◌/◌, ◌^◌, ◌≤◌, ◌<◌}
use mathlib.Core.Path.{◌≡◌, refl, sym, ap, ◌∙◌, subst}
use mathlib.Core.Logic.{◌≢◌, ◌⊎◌, inl, inr}
use mathlib.Core.List.{List, [], ◌∷◌, ◌++◌}
use mathlib.Core.Bool.{Bool, true, false, cond, not}
use native.Mathlib.Omega.{arith}
use native.Mathlib.Decide.{ℕ_discrete, dec_lt}
use lib.Dec.{eqb}
use lib.ListN.{length, drop, replicate, length-replicate}
use lib.Seq.{drop-append-add, drop-drop}
use lib.Pow.{pow_pos}
use borrow.Author.Tests.{eq-eqb, ne_eqb, eqb-true, not-false}
use Rattle.std.specs.Prelude.{Result, Ok, Err, IfOk}
use Rattle.std.specs.Borrow.{Bor}
use Rattle.answer.specs.Answer.{Answer, answered, refused, and_then, ◌⇒◌, first}
use Rattle.answer.specs.Refusals.{answer_is}
use Rattle.answer.specs.declared.Refusal.{Refusal}
use Rattle.answer.specs.Space.{over}
use Rattle.answer.proofs.Answers.{then_by, then_not, then_is, unless_none, unless_some, unless_is}
use Rattle.answer.proofs.Tests.{first_clear, clash}
use Rattle.meaning.specs.Book.{Book}
use Rattle.meaning.specs.Choice.{digit}
use Rattle.meaning.proofs.Choices.{digit_or, digit_high}
use Rattle.book.specs.Bytes.{most_groups}
use Rattle.book.specs.Reading.{reading}
use Rattle.book.specs.Check.{numbers_of, checked_is}
use Rattle.book.specs.Clauses.{meant}
use Rattle.book.specs.declared.accepted.Book.{Book as Found}
use Rattle.book.proofs.Checks.{checked_one}
use Rattle.book.proofs.Walk.{is_book}
use Rattle.admit.specs.Admits.{lack_from, lacking, admits, work_words, zeros}

-- ---- the groups of a choice
module _ (g x : ℕ) (h : g < most_groups) where
  lack_by : (t : Bool) → eqb (digit x g) 1 ≡ t → lacking g x ≡ cond t (g + 1) (lacking (g + 1) x)
  unfolding lacking lack_from
  lack_by t e =
      let fuel : most_groups - g ≡ suc (most_groups - (g + 1)) = omega arith in
      ap (λ (k : ℕ). lack_from k g x) fuel ∙ ap (λ (b : Bool). cond b (g + 1) (lack_from (most_groups - (g + 1)) (g + 1) x)) e

  pub lack_here : eqb (digit x g) 1 ≡ true → g + 1 ≡ lacking g x
  lack_here e = sym (lack_by true e)

  pub lack_next : eqb (digit x g) 1 ≡ false → lacking g x ≡ lacking (g + 1) x
  lack_next e = lack_by false e

pub lack_none : (g x : ℕ) → most_groups ≤ g → 0 ≡ lacking g x
unfolding lacking lack_from
lack_none g x h = let e : 0 ≡ most_groups - g = omega arith in ap (λ (k : ℕ). lack_from k g x) e

-- group l is the lowest above g that the choice names
pub record Lacks (g x l : ℕ) : Type 0 where
  pub above : g < l
  pub named : digit x (l - 1) ≡ 1
  pub lowest : (i : ℕ) → g ≤ i → i + 1 < l → digit x i ≢ 1

lacks_from : (k g x : ℕ) → ((lack_from k g x ≡ 0) × ((i : ℕ) → g ≤ i → i < g + k → digit x i ≢ 1)) ⊎ Lacks g x (lack_from k g x)
unfolding lack_from
lacks_from zero g x = inl (refl, λ i l h e. omega arith)
lacks_from (suc k) g x = go (eqb (digit x g) 1) refl (lacks_from k (g + 1) x)
  where
    at_first : (t : ℕ → Type 0) → t g → ((i : ℕ) → g + 1 ≤ i → t i) → (i : ℕ) → g ≤ i → t i
    at_first t here later i l = pick (ℕ_discrete i g)
      where
        pick : Dec (i ≡ g) → t i
        pick (yes e) = rw e here
        pick (no o) = later i (omega arith)

    go : (t : Bool) → eqb (digit x g) 1 ≡ t → ((lack_from k (g + 1) x ≡ 0) × ((i : ℕ) → g + 1 ≤ i → i < g + 1 + k → digit x i ≢ 1)) ⊎ Lacks (g + 1) x (lack_from k (g + 1) x)
        → ((cond t (g + 1) (lack_from k (g + 1) x) ≡ 0) × ((i : ℕ) → g ≤ i → i < g + suc k → digit x i ≢ 1)) ⊎ Lacks g x (cond t (g + 1) (lack_from k (g + 1) x))
    go true e r =
        let same : g + 1 - 1 ≡ g = omega arith in
        inr (record { above = omega arith; named = ap (digit x) same ∙ eqb-true _ _ e; lowest = λ i l h q. omega arith })
    go false e (inl r) =
        inl (
          r.0,
          at_first (λ i. i < g + suc k → digit x i ≢ 1) (λ l q. clash (eqb (digit x g) 1) (eq-eqb _ _ q) e) (λ i l h. r.1 i l (omega arith)),
        )
    go false e (inr L) =
        inr (record {
          above = omega (arith, L.above);
          named = L.named;
          lowest = at_first (λ i. i + 1 < lack_from k (g + 1) x → digit x i ≢ 1) (λ l q. clash (eqb (digit x g) 1) (eq-eqb _ _ q) e) (λ i l h. L.lowest i l h);
        })

pub lacking_is : (g x : ℕ) → x < 2 ^ most_groups → ((lacking g x ≡ 0) × ((i : ℕ) → g ≤ i → digit x i ≡ 0)) ⊎ Lacks g x (lacking g x)
unfolding lacking
lacking_is g x h = go (lacks_from (most_groups - g) g x)
  where
    go : ((lack_from (most_groups - g) g x ≡ 0) × ((i : ℕ) → g ≤ i → i < g + (most_groups - g) → digit x i ≢ 1)) ⊎ Lacks g x (lack_from (most_groups - g) g x)
        → ((lack_from (most_groups - g) g x ≡ 0) × ((i : ℕ) → g ≤ i → digit x i ≡ 0)) ⊎ Lacks g x (lack_from (most_groups - g) g x)
    go (inl r) = inl (r.0, λ i l. pick i l (digit_or x i))
      where
        pick : (i : ℕ) → g ≤ i → (digit x i ≡ 0) ⊎ (digit x i ≡ 1) → digit x i ≡ 0
        pick i l (inl e) = e
        pick i l (inr e) = high (dec_lt i most_groups)
          where
            high : Dec (i < most_groups) → digit x i ≡ 0
            high (yes m) = absurd (r.1 i l (omega arith) e)
            high (no m) = digit_high most_groups x i h (omega arith)
    go (inr L) = inr L

-- ---- the three ways
pub admit_refused : (s : List ℕ) (x n at : ℕ) → reading s ≡ refused n at → admits s x ≡ refused n at
unfolding admits
admit_refused s x n at e = then_not _ n at _ e

-- l is the lowest group that the choice names and the book lacks
module _ (b : Found) (s : List ℕ) (same : b.bytes.now ≡ s) (x l : ℕ) (el : l ≡ lacking b.groups x) where
  read_as : reading s ≡ answered (meant b)
  read_as = subst (λ (t : List ℕ). reading t ≡ answered (meant b)) same (is_book b.bytes.now b.accepted).read

  same_lack : l ≡ lacking (meant b).groups x
  same_lack = el ∙ ap (λ (k : ℕ). lacking k x) b.groups_are

  pub admit_lacks : l ≢ 0 → admits s x ≡ refused 10 l
  unfolding admits first
  admit_lacks o =
      then_by _ (meant b) _ read_as
      ∙ unless_some 10 _ _ (answered (meant b)) (sym (ap (λ (b : Bool). cond (not b) 10 0) (ap (λ (k : ℕ). eqb k 0) (sym same_lack) ∙ ne_eqb l 0 o))) (λ e. omega arith)
      ∙ ap (refused 10) (sym same_lack)

  pub admit_has : l ≡ 0 → admits s x ≡ answered (meant b)
  unfolding admits first
  admit_has e =
      then_by _ (meant b) _ read_as
      ∙ unless_none _ _ (answered (meant b)) (ap (λ (b : Bool). cond (not b) 10 0) (ap (λ (k : ℕ). eqb k 0) (sym same_lack) ∙ eq-eqb l 0 e))

-- ---- the contract of `admit` determines its answer
numbers : (r : Result Found Refusal) → checked_is r ≡ and_then (answer_is meant r) (λ b. answered (numbers_of b))
unfolding and_then
numbers (Ok b) =
    let v = b.variables_are in
    let g = b.groups_are in
    let n = b.clauses_are in
    cc
numbers (Err s) = refl

pub admitted_one : (bytes : Bor (List ℕ)) (r r' : Result Found Refusal) → IfOk r (λ b. b.bytes ≡ bytes) → IfOk r' (λ b. b.bytes ≡ bytes) → answer_is meant r ≡ answer_is meant r' → r ≡ r'
admitted_one bytes r r' e d p =
    checked_one bytes r r' e d (numbers r ∙ ap (λ (a : Answer Book). and_then a (λ b. answered (numbers_of b))) p ∙ sym (numbers r'))

-- ---- what `admit` found
pub admits_read : (s : List ℕ) (x : ℕ) (b : Book) → admits s x ≡ answered b → reading s ≡ answered b
unfolding admits
admits_read s x b e =
    let t = then_is (reading s) _ b e in
    let u = unless_is _ _ (answered t.0) b t.2 in
    t.1 ∙ u.1

-- a number of k digits whose digits from n on are 0
small : (k n x : ℕ) → x < 2 ^ k → ((i : ℕ) → n ≤ i → digit x i ≡ 0) → x < 2 ^ n
unfolding digit
small zero n x h f = omega (arith, h, pow_pos n)
small (suc k) zero x h f = omega (arith, f 0 (omega arith), small k zero (x / 2) (omega arith) (λ i l. f (suc i) (omega arith)))
small (suc k) (suc n) x h f = omega (arith, small k n (x / 2) (omega arith) (λ i l. f (suc i) (omega arith)))

pub choice_fits : (s : List ℕ) (x : ℕ) (b : Book) → x < 2 ^ most_groups → admits s x ≡ answered b → x < 2 ^ b.groups
unfolding admits
choice_fits s x b h e =
    let t = then_is (reading s) _ b e in
    let u = unless_is _ _ (answered t.0) b t.2 in
    let z : lacking t.0.groups x ≡ 0 = eqb-true _ _ (not-false _ (first_clear ((not (eqb (lacking t.0.groups x) 0) ⇒ 10) ∷ []) u.0).0) in
    let same : t.0 ≡ b = answered_same t.0 b u.1 in
    subst (λ (c : Book). x < 2 ^ c.groups) same (small most_groups t.0.groups x h (go t.0.groups z (lacking_is t.0.groups x h)))
  where
    answered_same : (c d : Book) → answered c ≡ answered d → c ≡ d
    answered_same c d q = cc

    go : (g : ℕ) → lacking g x ≡ 0 → ((lacking g x ≡ 0) × ((i : ℕ) → g ≤ i → digit x i ≡ 0)) ⊎ Lacks g x (lacking g x) → (i : ℕ) → g ≤ i → digit x i ≡ 0
    go g z (inl w) = w.1
    go g z (inr L) = absurd (omega (arith, z, L.above))

-- ---- clearing
over_is : (n : ℕ) (w : List ℕ) → over (replicate n 0) w ≡ replicate n 0 ++ drop n w
over_is n w = ap (λ (k : ℕ). replicate n 0 ++ drop k w) (length-replicate {A = ℕ} n 0)

pub cleared_again : (n : ℕ) (w u w' : List ℕ) → n ≡ work_words → drop n u ≡ drop n w → w' ≡ over (replicate n 0) u → w' ≡ over zeros w
unfolding zeros
cleared_again n w u w' e kept is = is ∙ over_is n u ∙ ap (λ (l : List ℕ). replicate n 0 ++ l) kept ∙ sym (over_is n w) ∙ ap (λ (k : ℕ). over (replicate k 0) w) e

pub cleared_over : (v : ℕ) (f w w' : List ℕ) → length f ≡ v → v ≤ work_words → w' ≡ over (replicate work_words 0) (f ++ drop v w) → w' ≡ over zeros w
cleared_over v f w w' long l is =
    let a : work_words ≡ length f + (work_words - v) = omega (arith, long) in
    let b : v + (work_words - v) ≡ work_words = omega arith in
    cleared_again work_words w (f ++ drop v w) w' refl
    (ap (λ (k : ℕ). drop k (f ++ drop v w)) a ∙ drop-append-add f (drop v w) (work_words - v) ∙ drop-drop (work_words - v) v w ∙ ap (λ (k : ℕ). drop k w) b)
    is
