-- Insertion pass by pass.
--   reach_start, reach_none, reach_here, reach_out, reach_low      one group on the way to the transition group, and no more
--   transition_own            a level that is a group of the pool is itself the transition group
--   breaks_by                 the level of the goals tells at which group of the seed consistency breaks
--   none_apart                nothing kept is apart from every choice
--   apart_by                  what is kept and what is left are apart
--   Inserting                 the invariant of `smallest_within`
--   within_none               at the start: no group breaks
--   inserting_start, Next, inserting_next, inserting_end      ... and else: the start, a pass and the end
--   next_apart, next_kept, next_again, next_falls      the pass, by the weight of its group
--   kept_after                the working space after one pass and another
-- Assumes nothing.
use Prim.Native.Nat.{ℕ, zero, suc, ◌+◌, ◌-◌, ◌*◌, ◌%◌, ◌^◌, ◌≤◌, ◌<◌}
use mathlib.Core.Path.{◌≡◌, refl, sym, ap, ◌∙◌, subst}
use mathlib.Core.Logic.{◌⊎◌, inl, inr, ◌≢◌}
use mathlib.Core.List.{List, [], ◌∷◌}
use mathlib.Core.Bool.{Bool, true, false, cond, ◌&&◌}
use native.Mathlib.Nat.{mod-lt, mod-eq_of_lt, zero-add}
use native.Mathlib.Omega.{arith}
use native.Mathlib.Decide.{ℕ_discrete}
use lib.Dec.{eqb, leb}
use lib.Pow.{pow_pos}
use borrow.Author.Tests.{eq-eqb, le-leb, lt-leb}
use Rattle.answer.proofs.Tests.{and_both}
use Rattle.meaning.specs.Book.{Book}
use Rattle.meaning.specs.Choice.{digit, Apart}
use Rattle.meaning.specs.Forced.{inconsistent}
use Rattle.meaning.proofs.Choices.{digit_lt, digit_high, digit_none}
use Rattle.meaning.proofs.Explanations.{inconsistent_more}
use Rattle.rounds.specs.Rounds.{smallest, Monotone}
use Rattle.rounds.specs.Insertion.{Stage, Breaks}
use Rattle.rounds.proofs.Digits.{lt_or_ge, digit_low, mod_low, low_again}
use Rattle.rounds.proofs.Insertion.{smallest_is, stage_start, stage_done, stage_next, stage_fits, breaks_le, breaks_group}
use Rattle.book.specs.Bytes.{most_groups}
use Rattle.book.specs.Clauses.{meant}
use Rattle.book.specs.declared.accepted.Book.{Book as Found}
use Rattle.book.proofs.Walk.{found}
use Rattle.marks.proofs.Walks.{heads}
use Rattle.levels.specs.Levels.{GoalLevel}
use Rattle.table.specs.Table.{Prepared, Kept}
use Rattle.table.proofs.Stores.{sized}
use Rattle.queue.specs.Turns.{Carrying}
use Rattle.queue.proofs.Turns.{prepared_kept}
use Rattle.explain.specs.Explains.{reach_from, transition, explained}

-- ---- the transition group
and_false : (a : Bool) → (a && false) ≡ false
and_false true = refl
and_false false = refl

pub reach_start : (pool l : ℕ) → transition pool l ≡ reach_from (most_groups - 0) 0 pool l
unfolding transition
reach_start pool l = refl

pub reach_none : (g pool l : ℕ) → most_groups ≤ g → reach_from (most_groups - g) g pool l ≡ 0
unfolding reach_from
reach_none g pool l h = let e : most_groups - g ≡ 0 = omega arith in ap (λ (k : ℕ). reach_from k g pool l) e

module _ (g pool l : ℕ) (h : g < most_groups) where
  reach_by : (t : Bool) → (eqb (digit pool g) 1 && leb l (g + 1)) ≡ t → reach_from (most_groups - g) g pool l ≡ cond t (g + 1) (reach_from (most_groups - (g + 1)) (g + 1) pool l)
  unfolding reach_from
  reach_by t e =
      let fuel : most_groups - g ≡ suc (most_groups - (g + 1)) = omega arith in
      ap (λ (k : ℕ). reach_from k g pool l) fuel ∙ ap (λ (b : Bool). cond b (g + 1) (reach_from (most_groups - (g + 1)) (g + 1) pool l)) e

  pub reach_here : eqb (digit pool g) 1 ≡ true → l ≤ g + 1 → reach_from (most_groups - g) g pool l ≡ g + 1
  reach_here e k = reach_by true (and_both _ _ e (le-leb l (g + 1) k))

  pub reach_out : eqb (digit pool g) 1 ≡ false → reach_from (most_groups - g) g pool l ≡ reach_from (most_groups - (g + 1)) (g + 1) pool l
  reach_out e = reach_by false (ap (λ (b : Bool). b && leb l (g + 1)) e)

  pub reach_low : g + 1 < l → reach_from (most_groups - g) g pool l ≡ reach_from (most_groups - (g + 1)) (g + 1) pool l
  reach_low k = reach_by false (ap (λ (b : Bool). eqb (digit pool g) 1 && b) (lt-leb l (g + 1) k) ∙ and_false (eqb (digit pool g) 1))

own_from : (pool l : ℕ) → digit pool (l - 1) ≡ 1 → (k g : ℕ) → g < l → l ≤ g + k → reach_from k g pool l ≡ l
unfolding reach_from
own_from pool l d zero g a b = absurd (omega arith)
own_from pool l d (suc k) g a b = go (ℕ_discrete (g + 1) l) (own_from pool l d k (g + 1))
  where
    go : Dec (g + 1 ≡ l) → (g + 1 < l → l ≤ g + 1 + k → reach_from k (g + 1) pool l ≡ l) → cond (eqb (digit pool g) 1 && leb l (g + 1)) (g + 1) (reach_from k (g + 1) pool l) ≡ l
    go (yes e) ih =
        let q : g ≡ l - 1 = omega arith in
        ap (λ (b : Bool). cond b (g + 1) (reach_from k (g + 1) pool l)) (and_both _ _ (eq-eqb (digit pool g) 1 (ap (digit pool) q ∙ d)) (le-leb l (g + 1) (omega arith))) ∙ e
    go (no o) ih =
        ap (λ (b : Bool). cond b (g + 1) (reach_from k (g + 1) pool l)) (ap (λ (b : Bool). eqb (digit pool g) 1 && b) (lt-leb l (g + 1) (omega arith)) ∙ and_false (eqb (digit pool g) 1))
        ∙ ih (omega arith) (omega arith)

pub transition_own : (pool l : ℕ) → digit pool (l - 1) ≡ 1 → 1 ≤ l → l ≤ most_groups → transition pool l ≡ l
unfolding transition
transition_own pool l d a b = own_from pool l d most_groups 0 (omega arith) (omega arith)

-- ---- what the level of the goals tells
pub breaks_by : (b : Book) (x kept k pool r : ℕ) → k ≤ most_groups → pool ≡ x % 2 ^ k → GoalLevel b kept pool r → Breaks (inconsistent b) x kept k r
breaks_by b x kept k pool r few e G j l =
    ap (λ (z : ℕ). inconsistent b (kept + z)) (sym (ap (λ (z : ℕ). z % 2 ^ j) e ∙ low_again x j k l)) ∙ G.breaks j (omega arith)

pub apart_by : (high kept k x pool : ℕ) → kept ≡ high * 2 ^ k → pool ≡ x % 2 ^ k → Apart kept pool
apart_by high kept k x pool e f g = go (lt_or_ge g k)
  where
    go : (g < k) ⊎ (k ≤ g) → digit kept g + digit pool g ≤ 1
    go (inl l) =
        let z : digit kept g ≡ 0 = ap (λ (y : ℕ). digit y g) (let q : kept ≡ high * 2 ^ k + 0 = omega (arith, e) in q) ∙ digit_low high k 0 g (pow_pos k) l ∙ digit_none g in
        omega (arith, z, digit_lt pool g)
    go (inr l) =
        let z : digit pool g ≡ 0 = ap (λ (y : ℕ). digit y g) f ∙ digit_high k (x % 2 ^ k) g (mod-lt x (pow_pos k)) l in
        omega (arith, z, digit_lt kept g)

-- ---- the passes
pub record Inserting (b : Book) (x kept pool level : ℕ) : Type 0 where
  pub low : ℕ
  pub few : low ≤ most_groups
  pub stage : Stage (inconsistent b) x kept low
  pub left : pool ≡ x % 2 ^ low
  pub breaks : Breaks (inconsistent b) x kept low level

-- a pass: the transition group is the level, it is kept, and only the groups below it are left; the next level is lower
pub record Next (b : Book) (x kept pool level : ℕ) : Type 0 where
  pub some : 1 ≤ level
  pub most : level ≤ most_groups
  pub own : transition pool level ≡ level
  pub arrives : digit pool (level - 1) ≡ 1
  pub before : Apart kept pool
  pub fits : kept + 2 ^ (level - 1) ≤ x
  pub apart : Apart (kept + 2 ^ (level - 1)) (pool % 2 ^ (level - 1))
  pub again : (r : ℕ) → GoalLevel b (kept + 2 ^ (level - 1)) (pool % 2 ^ (level - 1)) r → Inserting b x (kept + 2 ^ (level - 1)) (pool % 2 ^ (level - 1)) r
  pub falls : (r : ℕ) → GoalLevel b (kept + 2 ^ (level - 1)) (pool % 2 ^ (level - 1)) r → r < level

explained_none : (b : Book) (x : ℕ) → inconsistent b x ≡ false → [] ≡ explained b x
unfolding explained
explained_none b x e = sym (ap (λ (t : Bool). cond t (smallest (inconsistent b) x ∷ []) []) e)

explained_some : (b : Book) (x y : ℕ) → inconsistent b x ≡ true → y ≡ smallest (inconsistent b) x → y ∷ [] ≡ explained b x
unfolding explained
explained_some b x y e q = ap (λ (z : ℕ). z ∷ []) q ∙ sym (ap (λ (t : Bool). cond t (smallest (inconsistent b) x ∷ []) []) e)

pub none_apart : (x : ℕ) → Apart 0 x
none_apart x g = omega (arith, digit_none g, digit_lt x g)

module _ (b : Found) (x : ℕ) (fit : x < 2 ^ b.groups) where
  mono : Monotone b.groups (inconsistent (meant b))
  mono y z l t e = inconsistent_more (meant b) (heads (meant b) (found b)) y z t e

  most_groups_lem : b.groups ≤ most_groups
  most_groups_lem = omega (arith, b.groups_are, (found b).groups)

  -- the whole choice, as the first pass meets it
  first_pass : (level : ℕ) → GoalLevel (meant b) 0 x level → inconsistent (meant b) x ≡ leb level b.groups
  first_pass level G = ap (inconsistent (meant b)) (sym (zero-add (x % 2 ^ b.groups) ∙ mod-eq_of_lt fit)) ∙ G.breaks b.groups most_groups_lem

  pub within_none : (level : ℕ) → GoalLevel (meant b) 0 x level → b.groups < level → [] ≡ explained (meant b) x
  within_none level G l = explained_none (meant b) x (first_pass level G ∙ lt-leb level b.groups l)

  pub inserting_start : (level : ℕ) → GoalLevel (meant b) 0 x level → level ≤ b.groups → Inserting (meant b) x 0 x level
  inserting_start level G l =
      record {
        low = b.groups;
        few = most_groups_lem;
        stage = stage_start b.groups (inconsistent (meant b)) x fit (first_pass level G ∙ le-leb level b.groups l);
        left = sym (mod-eq_of_lt fit);
        breaks = breaks_by (meant b) x 0 b.groups x level most_groups_lem (sym (mod-eq_of_lt fit)) G;
      }

  module _ (kept pool level : ℕ) (I : Inserting (meant b) x kept pool level) where
    pub inserting_end : level ≡ 0 → kept ∷ [] ≡ explained (meant b) x
    inserting_end e =
        let S = stage_done (inconsistent (meant b)) x kept I.low level I.breaks I.stage e in
        explained_some (meant b) x kept (mono kept x fit S.inside S.broken) (smallest_is (inconsistent (meant b)) x kept S)

    pub inserting_next : level ≢ 0 → Next (meant b) x kept pool level
    inserting_next o =
        record {
          some = some;
          most = omega (arith, most, I.few);
          own = transition_own pool level arrives some (omega (arith, most, I.few));
          arrives = arrives;
          before = apart_by I.stage.high kept I.low x pool I.stage.whole I.left;
          fits = stage_fits b.groups (inconsistent (meant b)) mono x fit kept I.low I.stage level I.breaks some most;
          apart = apart_by later.high (kept + 2 ^ (level - 1)) (level - 1) x (pool % 2 ^ (level - 1)) later.whole rest;
          again = again;
          falls = λ r G. let l : r ≤ level - 1 = breaks_le (inconsistent (meant b)) x (kept + 2 ^ (level - 1)) (level - 1) r (again r G).breaks later in omega arith;
        }
      where
        some : 1 ≤ level
        some = omega arith

        most : level ≤ I.low
        most = breaks_le (inconsistent (meant b)) x kept I.low level I.breaks I.stage

        arrives : digit pool (level - 1) ≡ 1
        arrives =
            ap (λ (y : ℕ). digit y (level - 1)) I.left ∙ mod_low x I.low (level - 1) (omega (arith, some, most))
            ∙ breaks_group (inconsistent (meant b)) x kept I.low level I.breaks some most

        later : Stage (inconsistent (meant b)) x (kept + 2 ^ (level - 1)) (level - 1)
        later = stage_next b.groups (inconsistent (meant b)) mono x fit kept I.low I.stage level I.breaks some most

        rest : pool % 2 ^ (level - 1) ≡ x % 2 ^ (level - 1)
        rest = ap (λ (y : ℕ). y % 2 ^ (level - 1)) I.left ∙ low_again x (level - 1) I.low (omega (arith, most))

        few_left : level - 1 ≤ most_groups
        few_left = omega (arith, most, I.few)

        again : (r : ℕ) → GoalLevel (meant b) (kept + 2 ^ (level - 1)) (pool % 2 ^ (level - 1)) r → Inserting (meant b) x (kept + 2 ^ (level - 1)) (pool % 2 ^ (level - 1)) r
        again r G =
            record {
              low = level - 1;
              few = few_left;
              stage = later;
              left = rest;
              breaks = breaks_by (meant b) x (kept + 2 ^ (level - 1)) (level - 1) (pool % 2 ^ (level - 1)) r few_left rest G;
            }

-- the same by the weight that code computes
module _ (b : Book) (x kept pool level : ℕ) (N : Next b x kept pool level) (w : ℕ) (is : w ≡ 2 ^ (level - 1)) where
  pub next_apart : Apart (kept + w) (pool % w)
  next_apart = subst (λ (p : ℕ). Apart (kept + p) (pool % p)) (sym is) N.apart

  pub next_again : (r : ℕ) → GoalLevel b (kept + w) (pool % w) r → Inserting b x (kept + w) (pool % w) r
  next_again r G =
      subst (λ (p : ℕ). Inserting b x (kept + p) (pool % p) r) (sym is) (N.again r (subst (λ (p : ℕ). GoalLevel b (kept + p) (pool % p) r) is G))

  pub next_falls : (r : ℕ) → GoalLevel b (kept + w) (pool % w) r → r < level
  next_falls r G = N.falls r (subst (λ (p : ℕ). GoalLevel b (kept + p) (pool % p) r) is G)

-- ---- the working space
pub kept_after : (s : List ℕ) (kept pool kept' pool' : ℕ) (w u w' : List ℕ) → Kept s kept pool w u → Kept s kept' pool' u w' → Kept s kept' pool' w w'
kept_after s kept pool kept' pool' w u w' K L = record { ready = L.ready; rest = L.rest ∙ K.rest; long = L.long ∙ K.long }

-- carried on by the group g that was found, which is the level, and by the layout of the book
pub next_kept : (b : Found) (v m x kept pool level : ℕ) → (v ≡ b.variables) × (m ≡ b.clauses) → Next (meant b) x kept pool level → (w : ℕ) → w ≡ 2 ^ (level - 1) → (g : ℕ) (u u' : List ℕ) → g ≡ level
    → Carrying g v m u u' → Prepared b.bytes.now kept pool u → Kept b.bytes.now (kept + w) (pool % w) u u'
next_kept b v m x kept pool level same N w is g u u' e C P =
    prepared_kept b.bytes.now b.variables b.clauses (sized b) kept pool u u' P level w N.before N.some N.most N.arrives is (rw (sym same.0, sym same.1, sym e) C)
