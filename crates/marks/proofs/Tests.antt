-- What is found of a part's numbers, and what a clause adds.
--   is_core, is_group_lem            whether a group is chosen
--   every_all                    `every` tests each number
--   within_at, within_first      each number is within its limits; so is the first that is left, and so are the others
--   name_none, name_some, named_none, named_some, unnamed      a number that names something, or none
--   first_found                  the first variable without a mark
--   all_marked                   where there is no unmarked variable, all are marked
--   clause_goal, clause_old, clause_off, clause_not, clause_new      what a clause adds: a goal, an old mark, not in force, not its whole body, and else
--   one_less                     after a new mark one less is missing
--   flipped                      a test turned round
--   unbroken_head, unbroken_off, broken_if      whether a clause is a broken goal
-- Assumes nothing.
use Prim.Native.Nat.{ℕ, zero, suc, ◌+◌, ◌-◌, ◌≤◌, ◌<◌}
use mathlib.Core.Path.{◌≡◌, refl, sym, ap, ◌∙◌}
use mathlib.Core.Logic.{◌≢◌}
use mathlib.Core.List.{List, [], ◌∷◌}
use mathlib.Core.Bool.{Bool, true, false, cond, not, ◌&&◌, false≢true}
use native.Mathlib.Omega.{arith}
use lib.ListN.{length, get_or, set}
use lib.Dec.{eqb}
use native.Mathlib.Decide.{ℕ_discrete}
use borrow.Author.Tests.{eq-eqb, ne_eqb}
use Rattle.std.specs.Prelude.{None, Some, is_some, is_none}
use Rattle.std.specs.List.{list_all, find}
use Rattle.field.specs.Words.{within}
use Rattle.field.proofs.Words.{within_cons}
use Rattle.meaning.specs.Book.{Clause}
use Rattle.meaning.specs.Choice.{digit, chosen}
use Rattle.meaning.specs.Consistent.{every, in_force}
use Rattle.meaning.specs.Forced.{marked, mark, broken}
use Rattle.meaning.specs.Marks.{first_unmarked, unmarked}
use Rattle.meaning.proofs.Choices.{chosen_core, chosen_group}
use Rattle.meaning.proofs.Deciding.{broken_is}
use Rattle.meaning.proofs.Marks.{every_none, every_first, first_none, first_here, first_later, marked_at, mark_same, mark_on, mark_off, put_none, put_some, put_old, first_some, unmarked_set}
use Rattle.marks.specs.Fits.{named}

-- a group
pub is_core : (x g : ℕ) → g ≡ 0 → true ≡ chosen x g
is_core x g e = sym (ap (chosen x) e ∙ chosen_core x)

pub is_group_lem : (x g : ℕ) → g ≢ 0 → eqb (digit x (g - 1)) 1 ≡ chosen x g
is_group_lem x g o = let e : g ≡ suc (g - 1) = omega arith in sym (ap (chosen x) e ∙ chosen_group x (g - 1))

pub every_all : (a : ℕ → Bool) (ws : List ℕ) → every a ws ≡ list_all a ws
unfolding every
every_all a [] = refl
every_all a (w ∷ ws) = ap (λ b. a w && b) (every_all a ws)

pub within_at : (low high : ℕ) (ws : List ℕ) → within low high ws ≡ true → (k d : ℕ) → k < length ws → (low ≤ get_or ws k d) × (get_or ws k d ≤ high)
within_at low high [] h k d l = absurd (omega arith)
within_at low high (w ∷ ws) h zero d l = let t = within_cons low high w ws h in (t.0, t.1)
within_at low high (w ∷ ws) h (suc k) d l = within_at low high ws (within_cons low high w ws h).2 k d (omega arith)

pub within_first : (left : List ℕ) (w : ℕ) (rest : List ℕ) → left ≡ w ∷ rest → (low high : ℕ) → within low high left ≡ true → (low ≤ w) × (w ≤ high) × (within low high rest ≡ true)
within_first left w rest is low high e = within_cons low high w rest (ap (within low high) (sym is) ∙ e)

-- ---- a number or none
pub name_none : (n : ℕ) → n ≡ 0 → None ≡ named n
name_none n e = sym (ap named e)

pub name_some : (n k : ℕ) → 1 ≤ k → n ≡ k → Some k ≡ named n
name_some n zero h e = absurd (omega arith)
name_some n (suc k) h e = sym (ap named e)

pub named_none : (n : ℕ) → is_none (named n) ≡ eqb n 0
named_none zero = refl
named_none (suc n) = sym (ne_eqb (suc n) 0 (λ q. absurd (omega (arith, q))))

pub named_some : (n : ℕ) → is_some (named n) ≡ true → n ≢ 0
named_some zero e = absurd (false≢true e)
named_some (suc n) e = λ q. absurd (omega arith)

pub unnamed : (n : ℕ) → is_some (named n) ≡ false → n ≡ 0
unnamed zero e = refl
unnamed (suc n) e = absurd (false≢true (sym e))

-- ---- the first variable without a mark
pub first_found : (f ws : List ℕ) → within 1 (length f) ws ≡ true → find (λ w. not (eqb (get_or f (w - 1) 0) 1)) ws ≡ named (first_unmarked f ws)
first_found f [] h = name_none _ (first_none f)
first_found f (w ∷ ws) h = go (eqb (get_or f (w - 1) 0) 1) refl (first_found f ws in_limits.2)
  where
    in_limits : (1 ≤ w) × (w ≤ length f) × (within 1 (length f) ws ≡ true)
    in_limits = within_cons 1 (length f) w ws h

    go : (b : Bool) → eqb (get_or f (w - 1) 0) 1 ≡ b → find (λ w. not (eqb (get_or f (w - 1) 0) 1)) ws ≡ named (first_unmarked f ws)
        → find (λ w. not (eqb (get_or f (w - 1) 0) 1)) (w ∷ ws) ≡ named (first_unmarked f (w ∷ ws))
    go true e ih = ap (λ t. cond (not t) (Some w) (find (λ w. not (eqb (get_or f (w - 1) 0) 1)) ws)) e ∙ ih ∙ sym (ap named (first_later f w ws (marked_at f w in_limits.0 ∙ e)))
    go false e ih = ap (λ t. cond (not t) (Some w) (find (λ w. not (eqb (get_or f (w - 1) 0) 1)) ws)) e ∙ name_some _ w in_limits.0 (first_here f w ws (marked_at f w in_limits.0 ∙ e))

pub all_marked : (f : List ℕ) (v : ℕ) (ws : List ℕ) → within 1 v ws ≡ true → first_unmarked f ws ≡ 0 → every (marked f) ws ≡ true
all_marked f v [] h e = every_none (marked f)
all_marked f v (w ∷ ws) h e = go (marked f w) refl (all_marked f v ws in_limits.2)
  where
    in_limits : (1 ≤ w) × (w ≤ v) × (within 1 v ws ≡ true)
    in_limits = within_cons 1 v w ws h

    go : (b : Bool) → marked f w ≡ b → (first_unmarked f ws ≡ 0 → every (marked f) ws ≡ true) → every (marked f) (w ∷ ws) ≡ true
    go true q ih = every_first (marked f) w ws ∙ ap (λ (b : Bool). b && every (marked f) ws) q ∙ ih (sym (first_later f w ws q) ∙ e)
    go false q ih = absurd (omega (arith, in_limits.0, sym (first_here f w ws q) ∙ e))

-- ---- what a clause adds
and_false : (a : Bool) → (a && false) ≡ false
and_false true = refl
and_false false = refl

module _ (x : ℕ) (c : Clause) (f : List ℕ) where
  pub clause_goal : c.head ≡ 0 → f ≡ mark x c f
  clause_goal e = sym (mark_same x c f (put_none f c.head e))

  pub clause_old : c.head ≢ 0 → get_or f (c.head - 1) 0 ≡ 1 → f ≡ mark x c f
  clause_old o e = sym (mark_same x c f (put_old f c.head o e))

  pub clause_off : in_force x c ≡ false → f ≡ mark x c f
  clause_off e = sym (mark_off x c f (ap (λ (b : Bool). b && every (marked f) c.body) e))

  pub clause_not : every (marked f) c.body ≡ false → f ≡ mark x c f
  clause_not e = sym (mark_off x c f (ap (λ (b : Bool). in_force x c && b) e ∙ and_false (in_force x c)))

  pub clause_new : c.head ≢ 0 → in_force x c ≡ true → every (marked f) c.body ≡ true → set f (c.head - 1) 1 ≡ mark x c f
  clause_new o i e = sym (mark_on x c f i e ∙ put_some f c.head o)

pub one_less : (f : List ℕ) (h : ℕ) → h < length f → get_or f h 0 ≢ 1 → 1 + unmarked (set f h 1) ≡ unmarked f
one_less f h l o = omega (arith, unmarked_set f h l (ne_eqb _ _ o))

-- ---- whether a clause is a broken goal
pub flipped : (a b : Bool) → a ≡ not b → b ≡ not a
flipped a true e = sym (ap not e)
flipped a false e = sym (ap not e)

module _ (x : ℕ) (c : Clause) (f : List ℕ) where
  pub unbroken_head : c.head ≢ 0 → false ≡ broken x f c
  unbroken_head o = sym (broken_is x f c ∙ ap (λ (b : Bool). b && in_force x c && every (marked f) c.body) (ne_eqb c.head 0 o))

  pub unbroken_off : in_force x c ≡ false → false ≡ broken x f c
  unbroken_off e = sym (broken_is x f c ∙ ap (λ (b : Bool). eqb c.head 0 && b && every (marked f) c.body) e ∙ ap (λ (b : Bool). b && every (marked f) c.body) (and_false (eqb c.head 0)))

  pub broken_if : within 1 (length f) c.body ≡ true → c.head ≡ 0 → in_force x c ≡ true → is_none (named (first_unmarked f c.body)) ≡ broken x f c
  broken_if l g i = named_none (first_unmarked f c.body) ∙ go (ℕ_discrete (first_unmarked f c.body) 0)
    where
      go : Dec (first_unmarked f c.body ≡ 0) → eqb (first_unmarked f c.body) 0 ≡ broken x f c
      go (yes z) = eq-eqb (first_unmarked f c.body) 0 z ∙ sym (broken_is x f c ∙ simp (eq-eqb c.head 0 g, i, all_marked f (length f) c.body l z))
      go (no o) = ne_eqb (first_unmarked f c.body) 0 o ∙ sym (broken_is x f c ∙ ap (λ (b : Bool). eqb c.head 0 && in_force x c && b) (first_some f c.body o) ∙ and_false (eqb c.head 0 && in_force x c))
