-- Walks over a book: one in which each clause adds its mark, and one for the lowest broken goal.
--   good_fits, fits_at       a clause of a book, at any place, is as the functions on clauses ask
--   Sweeping, sweeping_start, sweeping_next, sweeping_end      the invariant of `sweep`, its start, its next turn and its end
--   unbroken_all, broken_first      the lowest broken goal, by the place that `position` gives
--   heads                    the heads of an accepted book are its variables
--   partly_swept             a sweep adds marks of forced variables only
--   settling_end             a sweep that adds no mark leaves the forced variables
-- Assumes nothing.
use Prim.Native.Nat.{ℕ, zero, suc, ◌+◌, ◌≤◌, ◌<◌}
use mathlib.Core.Path.{◌≡◌, refl, sym, ap, ◌∙◌, subst}
use mathlib.Core.Logic.{◌⊎◌, inl, inr}
use mathlib.Core.Bool.{Bool, true, false, cond, not}
use mathlib.Core.List.Memᴰ
use mathlib.Core.List.{List, [], ◌∷◌, Memᴰ}
use native.Mathlib.Omega.{arith}
use lib.ListN.{length, get_or}
use lib.Dec.{ltb}
use borrow.Author.Tests.{lt-ltb, le-ltb, ltb-true, ltb-false}
use Rattle.std.specs.List.{position_or_len}
use Rattle.field.proofs.Words.{within_more}
use Rattle.meaning.specs.Book.{Clause, Book}
use Rattle.meaning.specs.Forced.{mark, pass, broken, lowest, forced_in}
use Rattle.meaning.specs.Marks.{Partly, unmarked}
use Rattle.meaning.proofs.Marks.{Heads, AllQuiet, length_mark, pass_none, pass_first, pass_or}
use Rattle.meaning.proofs.Deciding.{lowest_empty, lowest_first}
use Rattle.meaning.proofs.Forced.{partly_pass, forced_one}
use Rattle.book.specs.Bytes.{most_groups, GoodClause, GoodClauses, WellFormed}
use Rattle.book.proofs.Walk.{later}
use Rattle.marks.specs.Fits.{Fits, named}
use Rattle.marks.proofs.Tests.{name_none, name_some}
use Rattle.std.specs.Prelude.{Option, None, Some}

pub good_fits : (b : Book) (n : ℕ) (c : Clause) → WellFormed b → n ≡ b.variables → GoodClause b.variables b.groups c → Fits n c × (c.head ≤ n)
good_fits b n c w e good =
    (record { groups = within_more 0 b.groups most_groups c.groups w.groups good.inside; body = rw e good.variables }, omega (arith, e, good.head))

pub fits_at : (b : Book) (n : ℕ) (c : Clause) → WellFormed b → n ≡ b.variables → (k : ℕ) → k < length b.clauses → c ≡ get_or b.clauses k c → Fits n c × (c.head ≤ n)
fits_at b n c w e k l is = good_fits b n c w e (subst (GoodClause b.variables b.groups) (sym is) (good_at b.clauses w.good k l))
  where
    good_at : (cs : List Clause) → GoodClauses b.variables b.groups cs → (k : ℕ) → k < length cs → GoodClause b.variables b.groups (get_or cs k c)
    good_at [] good k l = absurd (omega (arith, l))
    good_at (d ∷ cs) good zero l = good.0
    good_at (d ∷ cs) good (suc k) l = good_at cs good.1 k (omega (arith, l))

-- ---- each clause adds its mark
pub record Sweeping (b : Book) (x : ℕ) (f₀ f : List ℕ) (left : List Clause) (n : ℕ) : Type 0 where
  pub good : GoodClauses b.variables b.groups left
  pub so_far : pass x left f ≡ pass x b.clauses f₀
  pub long : length f ≡ length f₀
  pub count : n + unmarked f ≡ unmarked f₀

module _ (b : Book) (x : ℕ) (f₀ : List ℕ) where
  pub sweeping_start : WellFormed b → (left : List Clause) → left ≡ b.clauses → Sweeping b x f₀ f₀ left 0
  sweeping_start w left e =
      record {
        good = subst (GoodClauses b.variables b.groups) (sym e) w.good;
        so_far = ap (λ l. pass x l f₀) e;
        long = refl;
        count = omega arith;
      }

  module _ (f : List ℕ) (left : List Clause) (n : ℕ) (k : Sweeping b x f₀ f left n) where
    pub sweeping_end : left ≡ [] → (f ≡ pass x b.clauses f₀) × (n + unmarked f ≡ unmarked f₀)
    sweeping_end e = (sym (pass_none x f) ∙ sym (ap (λ l. pass x l f) e) ∙ k.so_far, k.count)

    module _ (c : Clause) (rest : List Clause) (is : left ≡ c ∷ rest) where
      pub sweeping_fits : WellFormed b → length f₀ ≡ b.variables → Fits (length f) c × (c.head ≤ length f)
      sweeping_fits w e = good_fits b (length f) c w (k.long ∙ e) (later b.variables b.groups left c rest k.good is).0

      pub sweeping_next : (f' : List ℕ) (m : ℕ) → f' ≡ mark x c f → m + unmarked f' ≡ n + unmarked f → Sweeping b x f₀ f' rest m
      sweeping_next f' m e added =
          record {
            good = (later b.variables b.groups left c rest k.good is).1;
            so_far = ap (pass x rest) e ∙ sym (ap (λ l. pass x l f) is ∙ pass_first x c rest f) ∙ k.so_far;
            long = ap length e ∙ length_mark x c f ∙ k.long;
            count = added ∙ k.count;
          }

-- ---- the lowest broken goal
-- the clauses before the first broken goal, counted
before : (x : ℕ) (f : List ℕ) (k : ℕ) (cs : List Clause)
    → lowest x f k cs ≡ cond (ltb (position_or_len (broken x f) cs) (length cs)) (position_or_len (broken x f) cs + k) 0
before x f k [] = lowest_empty x f k
before x f k (c ∷ cs) = lowest_first x f k c cs ∙ go (broken x f c) (ltb n (length cs)) refl refl (before x f (k + 1) cs)
  where
    n : ℕ
    n = position_or_len (broken x f) cs

    go : (b t : Bool) → broken x f c ≡ b → ltb n (length cs) ≡ t → lowest x f (k + 1) cs ≡ cond (ltb n (length cs)) (n + (k + 1)) 0
        → cond b k (lowest x f (k + 1) cs) ≡ cond (ltb (cond (not b) (1 + n) 0) (length (c ∷ cs))) (cond (not b) (1 + n) 0 + k) 0
    go true t e q ih = (let z : k ≡ 0 + k = omega arith in z) ∙ ap (λ d. cond d (0 + k) 0) (sym (lt-ltb 0 (length (c ∷ cs)) (omega arith)))
    go false true e q ih =
        ih ∙ ap (λ d. cond d (n + (k + 1)) 0) q ∙ (let z : n + (k + 1) ≡ 1 + n + k = omega arith in z)
        ∙ ap (λ d. cond d (1 + n + k) 0) (sym (lt-ltb (1 + n) (length (c ∷ cs)) (omega (arith, ltb-true n (length cs) q))))
    go false false e q ih =
        ih ∙ ap (λ d. cond d (n + (k + 1)) 0) q
        ∙ ap (λ d. cond d (1 + n + k) 0) (sym (le-ltb (1 + n) (length (c ∷ cs)) (omega (arith, ltb-false n (length cs) q))))

module _ (x : ℕ) (f : List ℕ) (cs : List Clause) (o : Option ℕ)
    (is : o ≡ cond (ltb (position_or_len (broken x f) cs) (length cs)) (Some (position_or_len (broken x f) cs)) None) where
  pub unbroken_all : o ≡ None → None ≡ named (lowest x f 1 cs)
  unbroken_all e = name_none _ (before x f 1 cs ∙ go (ltb (position_or_len (broken x f) cs) (length cs)) (sym e ∙ is))
    where
      go : (b : Bool) → None ≡ cond b (Some (position_or_len (broken x f) cs)) None → cond b (position_or_len (broken x f) cs + 1) 0 ≡ 0
      go true e = absurd (let z : ◌≡◌ {A = ℕ} 0 1 = cc in omega (arith, z))
      go false e = refl

  pub broken_first : (n : ℕ) → o ≡ Some n → Some (n + 1) ≡ named (lowest x f 1 cs)
  broken_first n e = name_some _ (n + 1) (omega arith) (before x f 1 cs ∙ go (ltb (position_or_len (broken x f) cs) (length cs)) (sym e ∙ is))
    where
      go : (b : Bool) → Some n ≡ cond b (Some (position_or_len (broken x f) cs)) None → cond b (position_or_len (broken x f) cs + 1) 0 ≡ n + 1
      go true e = let z : n ≡ position_or_len (broken x f) cs = cc in omega (arith, z)
      go false e = absurd (let z : ◌≡◌ {A = ℕ} 0 1 = cc in omega (arith, z))

-- ---- sweeps to the end
good_heads : (v g : ℕ) (cs : List Clause) → GoodClauses v g cs → Heads v cs
good_heads v g [] G c m = absurd (Memᴰ.not-nil m)
good_heads v g (d ∷ cs) G c m = go (Memᴰ.cases_cons m) (good_heads v g cs G.1 c)
  where
    go : (c ≡ d) ⊎ Memᴰ c cs → (Memᴰ c cs → c.head ≤ v) → c.head ≤ v
    go (inl e) ih = subst (λ (z : Clause). z.head ≤ v) (sym e) G.0.head
    go (inr k) ih = ih k

pub heads : (b : Book) → WellFormed b → Heads b.variables b.clauses
heads b w = good_heads b.variables b.groups b.clauses w.good

pub settling_end : (b : Book) (x : ℕ) (f f' : List ℕ) → WellFormed b → Partly b x f → f' ≡ pass x b.clauses f → 0 + unmarked f' ≡ unmarked f → f' ≡ forced_in b x
settling_end b x f f' is P e n = go (pass_or x b.clauses f (λ c m. omega (arith, heads b is c m, P.length)))
  where
    go : ((pass x b.clauses f ≡ f) × AllQuiet x f b.clauses) ⊎ (unmarked (pass x b.clauses f) < unmarked f) → f' ≡ forced_in b x
    go (inl w) = e ∙ w.0 ∙ forced_one b x f (heads b is) P w.1
    go (inr l) = absurd (omega (arith, ap unmarked e))

pub partly_swept : (b : Book) (x : ℕ) (f f' : List ℕ) → Partly b x f → f' ≡ pass x b.clauses f → Partly b x f'
partly_swept b x f f' P e = subst (Partly b x) (sym e) (partly_pass b x f P)
