-- The turn of a clause, and the end of a pass.
--   found_within                  a number that is found is within the limits of all
--   stepped_same                  a clause that changes no level
--   turn_done                     a clause whose head has level 0 changes no level
--   kept_turn                     the turn of one of the book's clauses keeps the space
--   prepared_kept                 the space is ready for the next pass after one that ended at a group
-- Assumes nothing.
use Prim.Native.Nat.{ℕ, zero, suc, ◌+◌, ◌-◌, ◌%◌, ◌^◌, ◌≤◌}
use mathlib.Core.Path.{◌≡◌, refl, sym, ap, ◌∙◌, subst}
use mathlib.Core.Logic.{◌≢◌}
use mathlib.Core.Bool.{Bool, true, false, cond}
use mathlib.Core.List.{List, [], ◌∷◌, Memᴰ}
use native.Mathlib.Omega.{arith}
use lib.ListN.{get_or, take, drop, set}
use lib.Seq.{get_or-take, set-get_or}
use Rattle.std.specs.List.{find}
use Rattle.std.specs.Prelude.{Option, Some, IfSome}
use Rattle.field.specs.Words.{within}
use Rattle.field.proofs.Words.{within_cons}
use Rattle.meaning.specs.Book.{Clause, Book}
use Rattle.meaning.specs.Choice.{digit, Apart}
use Rattle.meaning.specs.Marks.{Partly}
use Rattle.meaning.proofs.Forced.{partly_mark}
use Rattle.book.specs.Bytes.{most_groups}
use Rattle.book.specs.Walk.{book_of}
use Rattle.book.specs.Clauses.{meant, clause_is}
use Rattle.book.specs.declared.accepted.Book.{Book as Found}
use Rattle.levels.specs.Levels.{up_to, turn, marks_at, Settling}
use Rattle.levels.proofs.Thresholds.{turn_at}
use Rattle.levels.proofs.Turns.{clause_some}
use Rattle.levels.proofs.Carrying.{settling_carried}
use Rattle.lists.specs.Space.{Aside}
use Rattle.table.specs.Table.{Sized, Prepared, Kept}
use Rattle.table.proofs.Stores.{sized, front_levels, kept_by}
use Rattle.queue.specs.Turns.{Stepped, Carrying}
use Rattle.queue.specs.declared.turn.Turn.{Turn}

-- ---- what a search finds
pub found_within : (test : ℕ → Bool) (low high : ℕ) (ws : List ℕ) (r : Option ℕ) → r ≡ find test ws → within low high ws ≡ true → IfSome r (λ w. (low ≤ w) × (w ≤ high))
found_within test low high ws r e h = subst (λ (r : Option ℕ). IfSome r (λ w. (low ≤ w) × (w ≤ high))) (sym e) (go ws h)
  where
    pick : (b : Bool) (w : ℕ) (ws : List ℕ) → (low ≤ w) × (w ≤ high) → IfSome (find test ws) (λ w. (low ≤ w) × (w ≤ high))
        → IfSome (cond b (Some w) (find test ws)) (λ w. (low ≤ w) × (w ≤ high))
    pick true w ws k ih = k
    pick false w ws k ih = ih

    go : (ws : List ℕ) → within low high ws ≡ true → IfSome (find test ws) (λ w. (low ≤ w) × (w ≤ high))
    go [] h = tt
    go (w ∷ ws) h = let k = within_cons low high w ws h in pick (test w) w ws (k.0, k.1) (go ws k.2)

-- ---- a turn
in_place : (n : ℕ) (cs : List Clause) (c : Clause) (later : List Clause) → drop n cs ≡ c ∷ later → Memᴰ c cs
in_place zero cs c later e = subst (Memᴰ c) (sym e) (Memᴰ.head refl)
in_place (suc n) [] c later e = let z : ◌≡◌ {A = ℕ} 0 1 = cc in absurd (omega arith)
in_place (suc n) (d ∷ cs) c later e = Memᴰ.tail (in_place n cs c later e)

pub stepped_same : (v m kept pool : ℕ) (c : Clause) (w w' : List ℕ) → take v w ≡ turn kept pool c (take v w) → Aside v m w w' → Stepped kept pool v m c w w'
stepped_same v m kept pool c w w' e A = record { levels = A.levels ∙ e; beside = A.beside }

pub turn_done : (kept pool : ℕ) (c : Clause) (w : List ℕ) (v : ℕ) → c.head ≢ 0 → c.head ≤ v → get_or w (c.head - 1) 0 ≡ 0 → take v w ≡ turn kept pool c (take v w)
turn_done kept pool c w v o l e =
    let z : get_or (take v w) (c.head - 1) 0 ≡ 0 = get_or-take v w (c.head - 1) 0 (omega arith) ∙ e in
    sym (ap (set (take v w) (c.head - 1)) (sym z) ∙ set-get_or (take v w) (c.head - 1) 0) ∙ clause_some kept pool c (take v w) 0 o (omega (arith, z))

settling_turn : (b : Book) (kept pool : ℕ) (c : Clause) (f : List ℕ) → Apart kept pool → Memᴰ c b.clauses → Settling b kept pool f → Settling b kept pool (turn kept pool c f)
settling_turn b kept pool c f A m S t h = subst (Partly b (up_to kept pool t)) (sym (turn_at kept pool A t h c f)) (partly_mark b (up_to kept pool t) (marks_at t f) c m (S t h))

module _ (b : Found) (kept pool : ℕ) (w w' : List ℕ) (R : Prepared b.bytes.now kept pool w) where
  pub kept_step : (c : Clause) → Apart kept pool → Memᴰ c (meant b).clauses → Stepped kept pool b.variables b.clauses c w w' → Kept b.bytes.now kept pool w w'
  kept_step c A i T =
      kept_by _ _ _ (sized b) kept pool w w' R kept pool T.beside
      (subst (Settling (meant b) kept pool) (sym T.levels) (settling_turn (meant b) kept pool c (take b.variables w) A i (front_levels _ _ _ (sized b) kept pool w R)))

  pub kept_turn : Apart kept pool → (t : Turn) (n : ℕ) → drop n (meant b).clauses ≡ clause_is t.clause ∷ drop (n + 1) (meant b).clauses
      → (t.layout.variables ≡ b.variables) × (t.layout.clauses ≡ b.clauses) → (t.arrivals.kept ≡ kept) × (t.arrivals.pool ≡ pool)
      → Stepped t.arrivals.kept t.arrivals.pool t.layout.variables t.layout.clauses (clause_is t.clause) w w' → Kept b.bytes.now kept pool w w'
  kept_turn A t n is l a T =
      kept_step (clause_is t.clause) A
      (in_place n (meant b).clauses (clause_is t.clause) _ is) (rw (sym l.0, sym l.1, sym a.0, sym a.1) T)

-- ---- the end of a pass
pub prepared_kept : (s : List ℕ) (v m : ℕ) (S : Sized s v m) (kept pool : ℕ) (w w' : List ℕ) (R : Prepared s kept pool w) (g p : ℕ)
    → Apart kept pool → 1 ≤ g → g ≤ most_groups → digit pool (g - 1) ≡ 1 → p ≡ 2 ^ (g - 1) → Carrying g v m w w' → Kept s (kept + p) (pool % p) w w'
prepared_kept s v m S kept pool w w' R g p A some few d is C =
    kept_by s v m S kept pool w w' R (kept + p) (pool % p) C.beside
    (subst (Settling (book_of s) (kept + p) (pool % p)) (sym C.levels) (settling_carried (book_of s) kept pool g p (take v w) A some few d is (front_levels s v m S kept pool w R)))
