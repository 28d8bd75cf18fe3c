-- Two walks over a book: one in which each clause has its turn, and one for the least level of the goals; and what they come to.
--   Sweeping, sweeping_start, sweeping_fits, sweeping_next, sweeping_end      the invariant of `sweep`, its start, its clause, its next turn and its end
--   Seeking, seeking_start, seeking_fits, seeking_next, seeking_end      the same of `least_goal`
--   high_start, falling_next      the invariant of `settle`: only levels of never and above, and after a sweep
--   settling_long            there is a level for each variable
--   settled                  a sweep that lowers no level leaves the settled levels
--   goal_level_lem               the least level of the goals by settled levels
-- Assumes nothing.
use Prim.Native.Nat.{ℕ, ◌+◌, ◌≤◌, ◌<◌}
use mathlib.Core.Path.{◌≡◌, refl, sym, ap, ◌∙◌, subst}
use mathlib.Core.Logic.{◌⊎◌, inl, inr}
use mathlib.Core.Bool.{Bool, not, ◌||◌}
use mathlib.Core.List.{List, [], ◌∷◌}
use native.Mathlib.Omega.{arith}
use lib.ListN.{length, get_or, replicate}
use lib.Dec.{eqb, leb}
use borrow.Author.Tests.{lt-leb}
use Rattle.meaning.specs.Book.{Clause, Book}
use Rattle.meaning.specs.Choice.{Apart}
use Rattle.meaning.specs.Forced.{lowest, forced_in, broken_in, inconsistent}
use Rattle.meaning.specs.Marks.{Partly, unmarked}
use Rattle.meaning.proofs.Forced.{partly_none}
use Rattle.book.specs.Bytes.{GoodClauses, WellFormed}
use Rattle.book.proofs.Walk.{later}
use Rattle.marks.specs.Fits.{Fits}
use Rattle.marks.proofs.Walks.{good_fits, partly_swept, settling_end}
use Rattle.levels.specs.Levels.{never, up_to, turn, turns, goal_level, total, marks_at, Settling, Settled, GoalLevel}
use Rattle.levels.proofs.Thresholds.{length_marks, turns_at, goal_at, goal_le, high_at}
use Rattle.levels.proofs.Totals.{length_turn, turns_or}

-- clauses one after the other
turns_none : (kept pool : ℕ) (f : List ℕ) → turns kept pool [] f ≡ f
unfolding turns
turns_none kept pool f = refl

turns_first : (kept pool : ℕ) (c : Clause) (cs : List Clause) (f : List ℕ) → turns kept pool (c ∷ cs) f ≡ turns kept pool cs (turn kept pool c f)
unfolding turns
turns_first kept pool c cs f = refl

goal_none : (kept pool : ℕ) (f : List ℕ) (m : ℕ) → goal_level kept pool f m [] ≡ m
unfolding goal_level
goal_none kept pool f m = refl

goal_first : (kept pool : ℕ) (f : List ℕ) (m : ℕ) (c : Clause) (cs : List Clause) → goal_level kept pool f m (c ∷ cs) ≡ goal_level kept pool f (goal_level kept pool f m (c ∷ [])) cs
unfolding goal_level
goal_first kept pool f m c cs = refl

-- ---- each clause has its turn
pub record Sweeping (b : Book) (kept pool : ℕ) (f₀ f : List ℕ) (left : List Clause) (n : ℕ) : Type 0 where
  pub good : GoodClauses b.variables b.groups left
  pub so_far : turns kept pool left f ≡ turns kept pool b.clauses f₀
  pub long : length f ≡ length f₀
  pub count : n + total f ≡ total f₀

module _ (b : Book) (kept pool : ℕ) (f₀ : List ℕ) where
  pub sweeping_start : WellFormed b → (left : List Clause) → left ≡ b.clauses → Sweeping b kept pool f₀ f₀ left 0
  sweeping_start w left e =
      record {
        good = subst (GoodClauses b.variables b.groups) (sym e) w.good;
        so_far = ap (λ l. turns kept pool l f₀) e;
        long = refl;
        count = omega arith;
      }

  module _ (f : List ℕ) (left : List Clause) (n : ℕ) (k : Sweeping b kept pool f₀ f left n) where
    pub sweeping_end : left ≡ [] → (f ≡ turns kept pool b.clauses f₀) × (n + total f ≡ total f₀)
    sweeping_end e = (sym (turns_none kept pool f) ∙ sym (ap (λ l. turns kept pool l f) e) ∙ k.so_far, k.count)

    module _ (c : Clause) (rest : List Clause) (is : left ≡ c ∷ rest) where
      pub sweeping_fits : WellFormed b → length f₀ ≡ b.variables → Fits (length f) c × (c.head ≤ length f)
      sweeping_fits w e = good_fits b (length f) c w (k.long ∙ e) (later b.variables b.groups left c rest k.good is).0

      pub sweeping_next : (f' : List ℕ) (i : ℕ) → f' ≡ turn kept pool c f → i + total f' ≡ total f → Sweeping b kept pool f₀ f' rest (n + i)
      sweeping_next f' i e fell =
          record {
            good = (later b.variables b.groups left c rest k.good is).1;
            so_far = ap (turns kept pool rest) e ∙ sym (ap (λ l. turns kept pool l f) is ∙ turns_first kept pool c rest f) ∙ k.so_far;
            long = ap length e ∙ length_turn kept pool c f ∙ k.long;
            count = omega (arith, k.count, fell);
          }

-- ---- the least level of the goals
pub record Seeking (b : Book) (kept pool : ℕ) (f : List ℕ) (left : List Clause) (m : ℕ) : Type 0 where
  pub good : GoodClauses b.variables b.groups left
  pub so_far : goal_level kept pool f m left ≡ goal_level kept pool f never b.clauses

module _ (b : Book) (kept pool : ℕ) (f : List ℕ) where
  pub seeking_start : WellFormed b → (left : List Clause) → left ≡ b.clauses → Seeking b kept pool f left never
  seeking_start w left e = record { good = subst (GoodClauses b.variables b.groups) (sym e) w.good; so_far = ap (goal_level kept pool f never) e }

  module _ (left : List Clause) (m : ℕ) (k : Seeking b kept pool f left m) where
    pub seeking_end : left ≡ [] → m ≡ goal_level kept pool f never b.clauses
    seeking_end e = sym (ap (goal_level kept pool f m) e ∙ goal_none kept pool f m) ∙ k.so_far

    module _ (c : Clause) (rest : List Clause) (is : left ≡ c ∷ rest) where
      pub seeking_fits : WellFormed b → length f ≡ b.variables → Fits (length f) c
      seeking_fits w e = (good_fits b (length f) c w e (later b.variables b.groups left c rest k.good is).0).0

      pub seeking_next : (m' : ℕ) → m' ≡ goal_level kept pool f m (c ∷ []) → Seeking b kept pool f rest m'
      seeking_next m' e =
          record {
            good = (later b.variables b.groups left c rest k.good is).1;
            so_far = ap (λ l. goal_level kept pool f l rest) e ∙ sym (ap (goal_level kept pool f m) is ∙ goal_first kept pool f m c rest) ∙ k.so_far;
          }

-- ---- sweeps to the end
pub high_start : (b : Book) (kept pool : ℕ) (f : List ℕ) → length f ≡ b.variables → ((i : ℕ) → i < length f → never ≤ get_or f i 0) → Settling b kept pool f
high_start b kept pool f n k t h =
    subst (Partly b (up_to kept pool t)) (sym (high_at t f h k ∙ ap (λ (v : ℕ). replicate v 0) n)) (partly_none b (up_to kept pool t))

pub settling_long : (b : Book) (kept pool : ℕ) (f : List ℕ) → Settling b kept pool f → length f ≡ b.variables
settling_long b kept pool f S = sym (length_marks 0 f) ∙ (S 0 (omega arith)).length

pub falling_next : (b : Book) (kept pool : ℕ) (f f' : List ℕ) → Apart kept pool → Settling b kept pool f → f' ≡ turns kept pool b.clauses f → Settling b kept pool f'
falling_next b kept pool f f' A S e t h = partly_swept b (up_to kept pool t) (marks_at t f) (marks_at t f') (S t h) (ap (marks_at t) e ∙ turns_at kept pool A t h b.clauses f)

pub settled : (b : Book) (kept pool : ℕ) (f f' : List ℕ) → WellFormed b → Apart kept pool → Settling b kept pool f → f' ≡ turns kept pool b.clauses f → 0 + total f' ≡ total f → Settled b kept pool f'
settled b kept pool f f' is A S e n t h = go (turns_or kept pool b.clauses f)
  where
    go : (turns kept pool b.clauses f ≡ f) ⊎ (total (turns kept pool b.clauses f) < total f) → marks_at t f' ≡ forced_in b (up_to kept pool t)
    go (inl q) =
        settling_end b (up_to kept pool t) (marks_at t f) (marks_at t f') is (S t h) (ap (marks_at t) e ∙ turns_at kept pool A t h b.clauses f)
        (omega (arith, ap (λ (z : List ℕ). unmarked (marks_at t z)) (e ∙ q)))
    go (inr l) = absurd (omega (arith, ap total e))

pub goal_level_lem : (b : Book) (kept pool : ℕ) (f : List ℕ) (r : ℕ) → Apart kept pool → Settled b kept pool f → r ≡ goal_level kept pool f never b.clauses → GoalLevel b kept pool r
unfolding inconsistent broken_in
goal_level_lem b kept pool f r A S e =
    record {
      most = omega (arith, goal_le kept pool f never b.clauses);
      breaks = λ t h.
          sym (ap (λ (n : ℕ). leb n t) e ∙ goal_at kept pool A t h f never 1 b.clauses (omega arith)
          ∙ ap (λ (d : Bool). d || not (eqb (lowest (up_to kept pool t) (marks_at t f) 1 b.clauses) 0)) (lt-leb never t (omega arith))
          ∙ ap (λ (z : List ℕ). not (eqb (lowest (up_to kept pool t) z 1 b.clauses) 0)) (S t h));
    }
