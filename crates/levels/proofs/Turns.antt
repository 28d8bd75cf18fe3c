-- One turn of the functions on a clause.
--   level_core, level_kept, level_other      the level of a group: the core, a kept group, one of the pool or another
--   greatest_none, greatest_next      no number is left; w, the first that is left
--   greatest_from          the greatest level from m on is the greater of m and of that from 0 on
--   level_at               the level of a variable
--   capped                 a level that reaches the cap
--   clause_none, clause_some, turn_less      a clause without a head changes nothing; another makes its head's level the lower one
--   goal_other, goal_own   the least level of the goals after a clause: with a head, and without
--   fill_all               every level is filled
-- Assumes nothing.
use Prim.Native.Nat.{ℕ, zero, suc, ◌+◌, ◌-◌, ◌≤◌, ◌<◌, min, max}
use mathlib.Core.Path.{◌≡◌, sym, ap, ◌∙◌}
use mathlib.Core.Logic.{◌≢◌}
use mathlib.Core.List.{List, [], ◌∷◌, ◌++◌, append-nil}
use mathlib.Core.Bool.{Bool, true, false, cond}
use native.Mathlib.Omega.{arith}
use lib.ListN.{length, get_or, drop, set, replicate}
use lib.Seq.{drop-length}
use lib.Dec.{eqb}
use borrow.Author.Tests.{eq-eqb, ne_eqb}
use Rattle.meaning.specs.Book.{Clause}
use Rattle.meaning.specs.Choice.{digit}
use Rattle.levels.specs.Levels.{never, group_level, level_of, greatest, clause_level, lower, turn, goal_level, total}
use Rattle.levels.proofs.Thresholds.{default_any}
use Rattle.levels.proofs.Totals.{total_set}

-- ---- a group
module _ (kept pool g : ℕ) where
  pub level_core : g ≡ 0 → 0 ≡ group_level kept pool g
  unfolding group_level
  level_core e = ap (group_level kept pool) (sym e)

  by_digits : g ≢ 0 → group_level kept pool g ≡ cond (eqb (digit kept (g - 1)) 1) 0 (cond (eqb (digit pool (g - 1)) 1) g never)
  unfolding group_level
  by_digits o =
      let e : g ≡ suc (g - 1) = omega arith in
      ap (group_level kept pool) e ∙ ap (λ (k : ℕ). cond (eqb (digit kept (g - 1)) 1) 0 (cond (eqb (digit pool (g - 1)) 1) k never)) (sym e)

  pub level_kept : g ≢ 0 → eqb (digit kept (g - 1)) 1 ≡ true → 0 ≡ group_level kept pool g
  level_kept o e = sym (by_digits o ∙ ap (λ (b : Bool). cond b 0 (cond (eqb (digit pool (g - 1)) 1) g never)) e)

  pub level_other : (p : Bool) → g ≢ 0 → eqb (digit kept (g - 1)) 1 ≡ false → eqb (digit pool (g - 1)) 1 ≡ p → cond p g never ≡ group_level kept pool g
  level_other p o k e = sym (by_digits o ∙ ap (λ (b : Bool). cond b 0 (cond (eqb (digit pool (g - 1)) 1) g never)) k ∙ ap (λ (b : Bool). cond b g never) e)

-- ---- numbers one after the other
pub greatest_none : (l : ℕ → ℕ) (m : ℕ) (left : List ℕ) → left ≡ [] → greatest l m left ≡ m
unfolding greatest
greatest_none l m left e = ap (greatest l m) e

-- m' is the greater of m and of the first number's level
pub greatest_next : (left : List ℕ) (w : ℕ) (rest : List ℕ) → left ≡ w ∷ rest → (l : ℕ → ℕ) (m m' : ℕ) → m' ≡ max m (l w) → greatest l m left ≡ greatest l m' rest
unfolding greatest
greatest_next left w rest is l m m' e = ap (greatest l m) is ∙ ap (λ (k : ℕ). greatest l k rest) (sym e)

greatest_ge : (l : ℕ → ℕ) (m : ℕ) (ws : List ℕ) → m ≤ greatest l m ws
unfolding greatest
greatest_ge l m [] = omega arith
greatest_ge l m (w ∷ ws) = omega (arith, greatest_ge l (max m (l w)) ws)

pub greatest_from : (l : ℕ → ℕ) (m : ℕ) (ws : List ℕ) → greatest l m ws ≡ max m (greatest l 0 ws)
unfolding greatest
greatest_from l m [] = omega arith
greatest_from l m (w ∷ ws) = omega (arith, greatest_from l (max m (l w)) ws, greatest_from l (max 0 (l w)) ws)

pub level_at : (f : List ℕ) (w : ℕ) → 1 ≤ w → w ≤ length f → get_or f (w - 1) 0 ≡ level_of f w
unfolding level_of
level_at f zero h k = absurd (omega arith)
level_at f (suc i) h k = let e : suc i - 1 ≡ i = omega arith in ap (λ (j : ℕ). get_or f j 0) e ∙ default_any f i 0 never (omega arith)

pub capped : (cap m : ℕ) (l : ℕ → ℕ) (ws : List ℕ) → cap ≤ m → cap ≡ min cap (greatest l m ws)
capped cap m l ws h = omega (arith, greatest_ge l m ws)

-- ---- the head
module _ (kept pool : ℕ) (c : Clause) (f : List ℕ) where
  pub clause_none : c.head ≡ 0 → f ≡ turn kept pool c f
  unfolding lower
  clause_none e = ap (λ (k : ℕ). lower f k (clause_level kept pool f c)) (sym e)

  pub clause_some : (l : ℕ) → c.head ≢ 0 → l ≡ min (get_or f (c.head - 1) 0) (clause_level kept pool f c) → set f (c.head - 1) l ≡ turn kept pool c f
  unfolding lower
  clause_some l o e =
      let q : c.head ≡ suc (c.head - 1) = omega arith in
      ap (set f (c.head - 1)) e ∙ sym (ap (λ (k : ℕ). lower f k (clause_level kept pool f c)) q)

pub turn_less : (f : List ℕ) (h l : ℕ) → h < length f → l ≤ get_or f h 0 → (get_or f h 0 - l) + total (set f h l) ≡ total f
turn_less f h l k w = omega (arith, total_set f h l k)

-- ---- goals
module _ (kept pool : ℕ) (c : Clause) (f : List ℕ) (m : ℕ) where
  pub goal_other : c.head ≢ 0 → m ≡ goal_level kept pool f m (c ∷ [])
  unfolding goal_level
  goal_other o = sym (ap (λ (b : Bool). cond b (min m (clause_level kept pool f c)) m) (ne_eqb c.head 0 o))

  pub goal_own : c.head ≡ 0 → min m (clause_level kept pool f c) ≡ goal_level kept pool f m (c ∷ [])
  unfolding goal_level
  goal_own e = sym (ap (λ (b : Bool). cond b (min m (clause_level kept pool f c)) m) (eq-eqb c.head 0 e))

pub fill_all : (i l : ℕ) (f : List ℕ) → i ≡ length f → replicate i l ++ drop i f ≡ replicate (length f) l
fill_all i l f e = ap (λ (k : ℕ). replicate k l ++ drop k f) e ∙ ap (λ (z : List ℕ). replicate (length f) l ++ z) (drop-length f) ∙ append-nil (replicate (length f) l)
