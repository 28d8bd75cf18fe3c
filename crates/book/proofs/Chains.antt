-- A chain that adds up the lengths of what is made of each item that an iterator gives, as of each clause of a book.
-- `one` is what is made of an item, `all` what is made of all of them, bs the items that the iterator has left, and v the item as it gives it.
--   joined_length        the lengths of the parts, added up, are the length of the whole
--   part_most            no part is longer than the whole
--   may_call             a closure may be called at each item, if it may at one whose part is no longer than the whole
--   sum_fits, sum_is     the chain's sum fits where the length of the whole does, and is that length
--   walk_yields          a walk gives the clauses that it has left
-- Assumes nothing.
use Prim.Native.Nat.{ℕ, zero, suc, ◌+◌, ◌≤◌, ◌<◌}
use mathlib.Core.Path.{◌≡◌, sym, ap, subst, ◌∙◌}
use mathlib.Core.List.{List, [], ◌∷◌, map}
use native.Mathlib.Omega.{arith}
use lib.ListN.{length, length-append, get_or}
use denote.Param.Members.{Mut}
use Rattle.std.specs.Bool.{⊤}
use Rattle.std.specs.Fn.{Called}
use Rattle.std.specs.Prelude.{Option}
use Rattle.std.specs.Iterator.{Drains, CallableAtEachTurn}
use Rattle.std.specs.Iterator.Adapters.{map_source, map_callee}
use Rattle.std.specs.Iterator.Runs.{EachRunFrom}
use Rattle.std.specs.declared.iter.Map.{Map}
use Rattle.std.specs.List.{fold, sum_by}
use Rattle.std.proofs.lemmas.Iterator.{YieldsList, YieldsList-from_map, maps}
use Rattle.std.proofs.lemmas.Iterator.Adapters.{serves_from_places}
use Rattle.std.proofs.lemmas.Iterator.Consumers.{YieldsList-from_shown, sum_by_from_yields_List, fits_by_from_yields_list}
use Rattle.std.proofs.lemmas.List.Sums.{sum_by_from}
use Rattle.meaning.specs.Book.{Clause}
use Rattle.book.specs.declared.accepted.Clauses.{Clauses}
use Rattle.book.specs.Clauses.{clause_is, clauses_left, GivesFirst}
use Rattle.book.proofs.Walks.{Joins}

module _ {A B : Type 0} (one : B → List A) (all : List B → List A) (joins : Joins one all) where
  whole_length : (b : B) (bs : List B) → length (all (b ∷ bs)) ≡ length (one b) + length (all bs)
  whole_length b bs = ap length (joins.more b bs) ∙ length-append (one b) (all bs)

  joined_length : (bs : List B) → sum_by (λ b. length (one b)) bs ≡ length (all bs)
  joined_length [] = sym (ap length joins.none)
  joined_length (b ∷ bs) = sum_by_from (λ d. length (one d)) (0 + length (one b)) bs ∙ omega (arith, joined_length bs, whole_length b bs)

  part_most : (bs : List B) (k : ℕ) (d : B) → k < length bs → length (one (get_or bs k d)) ≤ length (all bs)
  part_most [] k d h = absurd (omega arith)
  part_most (b ∷ bs) zero d h = omega (arith, whole_length b bs)
  part_most (b ∷ bs) (suc k) d h = omega (arith, whole_length b bs, part_most bs k d (omega arith))

  module _ {S X : Type 0} {steps : S → Option X → S → Type 0} (v : X → B) (bs : List B) where
    pub may_call : {s : S} → YieldsList steps v s bs → {F : Type 0} {R : F → X → F → Type 0} {Q : F → X → Type 0} {f : F}
        → ((x : X) (q : F) → R f x q → q ≡ f) → ((x : X) → length (one (v x)) ≤ length (all bs) → Q f x) → CallableAtEachTurn steps R Q s f
    may_call yields same can = serves_from_places yields same (λ x k h e. can x (let m = part_most bs k (v x) h in omega (arith, m, ap length (ap one e))))

    -- the closure f gives the length of what is made of the item that it is called at
    module _ {F : Type 0} (g : Mut F (X × Unit {0}) ℕ) {s : Map S F} {f : F} (yields : YieldsList steps v (map_source s) bs) (same : map_callee s ≡ f)
        (each : (x : X) (r : ℕ) (q : F) → Called g f (x, tt) r q → (q ≡ f) × (r ≡ length (one (v x)))) where
      lengths : YieldsList (maps steps g) (λ r. r) s (map (λ b. length (one b)) bs)
      lengths = YieldsList-from_map g (λ b. length (one b)) yields same each

      pub sum_fits : (top : ℕ) → length (all bs) < top → EachRunFrom (maps steps g) s (λ p. fold (λ a x. a + x) 0 p.items < top)
      sum_fits top h = fits_by_from_yields_list (λ b. length (one b)) bs s top lengths (omega (arith, joined_length bs, h))

      pub sum_is : (r : ℕ) → ((xs : List ℕ) × (⊤ → Drains (maps steps g) s xs) × (r ≡ fold (λ a x. a + x) 0 xs)) → r ≡ length (all bs)
      sum_is r ran = sum_by_from_yields_List (λ b. length (one b)) bs s r ran lengths ∙ joined_length bs

-- a walk gives the clauses that it has left
pub walk_yields : {w : Clauses} (cs : List Clause) → clauses_left w ≡ cs → YieldsList GivesFirst clause_is w cs
walk_yields {w} cs e = subst (YieldsList GivesFirst clause_is w) e (YieldsList-from_shown GivesFirst clause_is clauses_left (λ t u h. ap length h.0.0) (λ t x u h. h.0) w)
