-- Levels confirmed: a goal's level that a goal clause has and below which every clause lets the granted levels stand.
--   closed_all             every clause lets them stand if each does
--   closed_for             what a walk found, of the choice as it is spelt elsewhere
--   up_to_inside           a choice up to a number is inside those up to higher ones
--   confirmed              a level so confirmed is the one from which on the choice is inconsistent
-- Assumes nothing.
use Prim.Native.Nat.{ℕ, zero, suc, ◌-◌, ◌%◌, ◌^◌, ◌≤◌, ◌<◌}
use mathlib.Core.Path.{◌≡◌, refl, sym, ap, ◌∙◌, subst}
use mathlib.Core.Logic.{◌⊎◌, inl, inr, ◌≢◌}
use mathlib.Core.Bool.{Bool, true, false, not, ◌&&◌, ◌||◌, false≢true}
use mathlib.Core.List.Memᴰ
use mathlib.Core.List.{List, [], ◌∷◌, Memᴰ}
use native.Mathlib.Omega.{arith}
use native.Mathlib.Decide.{ℕ_discrete}
use lib.ListN.{get_or, drop}
use lib.Dec.{leb, leb-zero}
use borrow.Author.Tests.{le-leb, lt-leb, leb-true, ltb-true, eq-eqb, ne_eqb}
use Rattle.std.specs.List.{list_all}
use Rattle.answer.proofs.Tests.{and_left, and_right, and_both, clash}
use Rattle.meaning.specs.Book.{Clause, Book}
use Rattle.meaning.specs.Choice.{Apart, Inside}
use Rattle.meaning.specs.Consistent.{every, in_force, Says}
use Rattle.meaning.specs.Forced.{marked, broken, forced_in, broken_in, inconsistent}
use Rattle.meaning.proofs.Marks.{every_more, Heads}
use Rattle.meaning.proofs.Forced.{forced_in_least}
use Rattle.meaning.proofs.Deciding.{broken_whole, lowest_none, consistent_in, broken_more}
use Rattle.rounds.proofs.Digits.{lt_or_ge, mod_inside, digit_sum}
use Rattle.book.specs.Bytes.{most_groups}
use Rattle.levels.specs.Levels.{never, up_to, level_of, greatest, clause_level, marks_at, below, stands, closed_below, BrokenBy, granted, Settling, GoalLevel}
use Rattle.levels.proofs.Thresholds.{apart_up_to, every_greatest, marked_at, clause_at}

pub closed_all : (x m : ℕ) (f : List ℕ) (cs : List Clause) → closed_below x m f cs ≡ list_all (stands x m f) cs
unfolding closed_below
closed_all x m f [] = refl
closed_all x m f (c ∷ cs) = ap (λ b. stands x m f c && b) (closed_all x m f cs)

-- what a walk found, of the choice as it is spelt elsewhere
pub closed_for : (x y m : ℕ) (f : List ℕ) (cs : List Clause) (b : Bool) → x ≡ y → b ≡ closed_below x m f cs → b ≡ true → closed_below y m f cs ≡ true
closed_for x y m f cs b e is t = ap (λ (z : ℕ). closed_below z m f cs) (sym e) ∙ sym is ∙ t

-- each clause stands
each_stands : (x m : ℕ) (f : List ℕ) (cs : List Clause) → closed_below x m f cs ≡ true → (c : Clause) → Memᴰ c cs → stands x m f c ≡ true
unfolding closed_below
each_stands x m f [] e c k = absurd (Memᴰ.not-nil k)
each_stands x m f (d ∷ cs) e c k =
    go (Memᴰ.cases_cons k) (each_stands x m f cs (and_right (stands x m f d) (closed_below x m f cs) e) c)
  where
    go : (c ≡ d) ⊎ Memᴰ c cs → (Memᴰ c cs → stands x m f c ≡ true) → stands x m f c ≡ true
    go (inl q) ih = ap (stands x m f) q ∙ and_left (stands x m f d) (closed_below x m f cs) e
    go (inr k) ih = ih k

-- ---- thresholds
-- a head with a level below a threshold's next has its mark there; no head has such a level
below_says : (t : ℕ) (f : List ℕ) (h : ℕ) → t ≤ most_groups → below (suc t) f h ≡ true → Says (marked (marks_at t f)) h
unfolding below level_of
below_says t f zero l e = false≢true e
below_says t f (suc h) l e = marked_at t l f (suc h) ∙ le-leb (get_or f h never) t (omega (arith, ltb-true (get_or f h never) (suc t) e))

pub up_to_inside : (kept pool t u : ℕ) → Apart kept pool → t ≤ u → u ≤ most_groups → Inside (up_to kept pool t) (up_to kept pool u)
up_to_inside kept pool t u A l h g =
    omega (arith, digit_sum kept (pool % 2 ^ t) g (apart_up_to kept pool A t (omega arith)), digit_sum kept (pool % 2 ^ u) g (apart_up_to kept pool A u h), mod_inside pool t u l g)

placed_in : (n : ℕ) (cs : List Clause) (c : Clause) (later : List Clause) → drop n cs ≡ c ∷ later → Memᴰ c cs
placed_in zero cs c later e = subst (Memᴰ c) (sym e) (Memᴰ.head refl)
placed_in (suc n) [] c later e = let z : ◌≡◌ {A = ℕ} 0 1 = cc in absurd (omega arith)
placed_in (suc n) (d ∷ cs) c later e = Memᴰ.tail (placed_in n cs c later e)

module _ (b : Book) (kept pool : ℕ) (f : List ℕ) (A : Apart kept pool) (H : Heads b.variables b.clauses) (S : Settling b kept pool f) where
  consistent_is : (x : ℕ) → broken_in b x ≡ 0 → inconsistent b x ≡ false
  unfolding inconsistent
  consistent_is x e = ap not (eq-eqb (broken_in b x) 0 e)

  inconsistent_is : (x : ℕ) → broken_in b x ≢ 0 → inconsistent b x ≡ true
  unfolding inconsistent
  inconsistent_is x o = ap not (ne_eqb (broken_in b x) 0 o)

  -- from the level of a goal clause on, that goal is broken
  from_there : (r t : ℕ) → BrokenBy kept pool f b.clauses r → r ≤ t → t ≤ most_groups → broken_in b (up_to kept pool t) ≢ 0
  unfolding broken_in
  from_there r t B l h e =
      let x = up_to kept pool t in
      let c = B.goal in
      let on : (in_force x c && every (marked (marks_at t f)) c.body) ≡ true = sym (clause_at kept pool A t h f c) ∙ le-leb (clause_level kept pool f c) t (omega (arith, B.low)) in
      let forced = (S t h).sound (marked (forced_in b x)) (forced_in_least b x H).closed in
      clash (broken x (forced_in b x) c)
      (broken_whole x (forced_in b x) c
      (record {
        goal = B.headless;
        force = and_left (in_force x c) (every (marked (marks_at t f)) c.body) on;
        whole = every_more (marked (marks_at t f)) (marked (forced_in b x)) c.body forced (and_right (in_force x c) (every (marked (marks_at t f)) c.body) on);
      }))
      ((lowest_none x (forced_in b x) 1 b.clauses (omega arith)).1 e c (placed_in B.place b.clauses c B.later B.here))

  -- just below a level at which every clause lets some levels stand, the marks of these satisfy every clause in force
  module _ (t : ℕ) (h : t ≤ most_groups) (z : List ℕ) (C : (c : Clause) → Memᴰ c b.clauses → stands (up_to kept pool t) (suc t) z c ≡ true) where
    -- of a clause in force with its whole body marked it is the head that stands
    by_head : (c : Clause) → Memᴰ c b.clauses → (in_force (up_to kept pool t) c && every (marked (marks_at t z)) c.body) ≡ true → below (suc t) z c.head ≡ true
    by_head c k on =
        go (in_force (up_to kept pool t) c) (below (suc t) z c.head) (and_left (in_force (up_to kept pool t) c) (every (marked (marks_at t z)) c.body) on) (C c k)
      where
        most : ℕ
        most = greatest (level_of z) 0 c.body

        marked_all : leb most t ≡ true
        marked_all =
            every_greatest (marked (marks_at t z)) (level_of z) t (marked_at t h z) 0 c.body ∙ ap (λ (b : Bool). b && every (marked (marks_at t z)) c.body) (leb-zero t)
            ∙ and_right (in_force (up_to kept pool t) c) (every (marked (marks_at t z)) c.body) on

        go : (i d : Bool) → i ≡ true → (not i || (d || leb (suc t) most)) ≡ true → d ≡ true
        go false d i e = absurd (false≢true i)
        go true true i e = refl
        go true false i e = absurd (omega (arith, leb-true (suc t) most e, leb-true most t marked_all))

    just_below : broken_in b (up_to kept pool t) ≡ 0
    just_below =
        (consistent_in b (up_to kept pool t) H).0
        (marked (marks_at t z), λ c k i w. below_says t z c.head h (by_head c k (and_both (in_force (up_to kept pool t) c) (every (marked (marks_at t z)) c.body) i w)))

  -- so every choice up to a lower number is consistent
  below_there : (r t : ℕ) (z : List ℕ) → r ≤ never → (r ≡ 0) ⊎ (closed_below (up_to kept pool (r - 1)) r z b.clauses ≡ true) → t < r → broken_in b (up_to kept pool t) ≡ 0
  below_there r t z most (inl e) l = absurd (omega arith)
  below_there r t z most (inr e) l = go (ℕ_discrete (broken_in b (up_to kept pool t)) 0)
    where
      q : r ≡ suc (r - 1)
      q = omega arith

      go : Dec (broken_in b (up_to kept pool t) ≡ 0) → broken_in b (up_to kept pool t) ≡ 0
      go (yes n) = n
      go (no o) =
          absurd (broken_more b (up_to kept pool t) (up_to kept pool (r - 1)) H (up_to_inside kept pool t (r - 1) A (omega arith) (omega arith)) o
          (just_below (r - 1) (omega arith) z (λ c k. ap (λ (m : ℕ). stands (up_to kept pool (r - 1)) m z c) (sym q) ∙ each_stands (up_to kept pool (r - 1)) r z b.clauses e c k)))

pub confirmed : (b : Book) (kept pool : ℕ) (f : List ℕ) (r : ℕ) → Apart kept pool → Heads b.variables b.clauses → Settling b kept pool f → r ≤ never
    → (r ≡ never) ⊎ BrokenBy kept pool f b.clauses r → (r ≡ 0) ⊎ (closed_below (up_to kept pool (r - 1)) r (granted f) b.clauses ≡ true) → GoalLevel b kept pool r
confirmed b kept pool f r A H S most B C = record { most = most; breaks = λ t h. at t h B (lt_or_ge t r) }
  where
    at : (t : ℕ) → t ≤ most_groups → (r ≡ never) ⊎ BrokenBy kept pool f b.clauses r → (t < r) ⊎ (r ≤ t) → inconsistent b (up_to kept pool t) ≡ leb r t
    at t h B (inl l) = consistent_is b kept pool f A H S (up_to kept pool t) (below_there b kept pool f A H S r t (granted f) most C l) ∙ sym (lt-leb r t l)
    at t h (inl e) (inr l) = absurd (omega arith)
    at t h (inr B) (inr l) = inconsistent_is b kept pool f A H S (up_to kept pool t) (from_there b kept pool f A H S r t B l h) ∙ sym (le-leb r t l)
