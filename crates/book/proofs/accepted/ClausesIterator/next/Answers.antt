-- The next clause is the first of those that are left.
-- Assumes nothing.
use Prim.Native.Nat.{ℕ, ◌-◌, ◌≤◌}
use mathlib.Core.Path.{◌≡◌, refl, sym, ap, ◌∙◌}
use mathlib.Core.List.{List, ◌∷◌}
use mathlib.Core.Bool.{true}
use native.Mathlib.Omega.{arith}
use lib.ListN.{length, take, drop}
use Rattle.std.proofs.Common.{rules}
use Rattle.field.specs.Words.{words}
use Rattle.field.specs.Field.{size, after}
use Rattle.meaning.specs.Book.{clause_from, Clause as Meant}
use Rattle.book.specs.Reading.{head_of, clause_of}
use Rattle.book.specs.Walk.{walks, left}
use Rattle.book.proofs.Left.{left_short, walks_step, behind, next_left, next_walks, parts_spell}
use Rattle.book.proofs.Turns.{Places, places, front_end}
use Rattle.book.proofs.accepted.ClausesIterator.next.Goals as goal
use Rattle.book.proofs.accepted.ClausesIterator.next.Goals.{In-Clause}

lies : (c : In-Clause) → let p = c.in-Clause in Places c.args.self.now.rest.now p.groups p.head p.body p.size
lies c = places _ _ _ _ _ (search rules)

fits : (c : In-Clause) → let r = c.args.self.now.rest.now in (7 ≤ size r) × (size r ≤ length r) × (walks (length (after r)) (after r) ≡ true)
fits c = walks_step _ (lies c).long c.args.self.now.walks

pub returns-in_default-clause-steps : goal.returns-in_default-clause-steps
returns-in_default-clause-steps c = let e = left_short _ _ (front_end c.args.self.now.rest.now (search rules)) in ((e, e), refl)

pub first_clause-clause-requires : goal.first_clause-clause-requires
first_clause-clause-requires c = let w = fits (goal.at.first_clause-clause-requires c).In-Clause in (w.0, w.1)

pub slice_bounds-self-count : goal.slice_bounds-self-count
slice_bounds-self-count c = let k = (goal.at.slice_bounds-self-count c).In-Clause in omega (arith, (fits k).1, (lies k).ends)

pub slice_bounds-self-start : goal.slice_bounds-self-start
slice_bounds-self-start c = let k = (goal.at.slice_bounds-self-start c).In-Clause in omega (arith, (fits k).1, (lies k).ends)

pub invariant_of-self : goal.invariant_of-self
invariant_of-self c = let p = lies (goal.at.invariant_of-self c).In-Clause in record { walks = next_walks _ _ p.ends p.long c.args.self.now.walks }

-- parts that stand where those of the first clause do, and what is behind it
gives : (r : List ℕ) → 7 ≤ size r → size r ≤ length r → (new : List Meant) (rest : List ℕ) → left (length r) r ≡ clause_of r ∷ new → rest ≡ after r
    → (h : ℕ) → h ≡ head_of r → (gs ws : List ℕ) → gs ≡ take 2 (drop 3 r) → ws ≡ take (size r - 7) (drop 7 r)
    → (left (length r) r ≡ clause_from (words gs) h (words ws) ∷ new) × ((gs ≡ take 2 (drop 3 r)) × (ws ≡ take (size r - 7) (drop 7 r)) × (rest ≡ after r))
gives r p q new rest l b h e gs ws g w = (l ∙ ap (λ (k : Meant). k ∷ new) (sym (parts_spell r p q gs h ws g e w)), (g, w, b))

pub returns-clause-steps : goal.returns-clause-steps
returns-clause-steps c =
    let k = (goal.at.returns-clause-steps c).In-Clause in
    let p = lies k in
    let f = fits k in
    let e = c.first_clause-clause.ensures in
    gives _ f.0 f.1 _ _ (next_left _ _ p.ends p.long _ refl) (behind _ _ p.ends) _ (ap (λ (k : Meant). k.head) e.clause) _ _ (search (rules, e.groups)) (search (rules, e.body))

pub returns-clause-goes : goal.returns-clause-goes
returns-clause-goes c =
    let p = lies (goal.at.returns-clause-goes c).In-Clause in
    let e = ap length (next_left _ _ p.ends p.long _ c.first_clause-clause.ensures.clause) in
    record { on = λ f. (tt, tt, omega (arith, e)); keeps = tt; rests = λ f. tt }
