-- Writing the numbers of a part, a head and a clause.
--   head_none, head_some   a head, by whether there is one
--   clause_wrote       its groups, its body, its head and 0, one after the other
-- Assumes nothing.
use Prim.Native.Nat.{ℕ, zero, suc, ◌+◌}
use mathlib.Core.Path.{◌≡◌, refl}
use mathlib.Core.List.{List, [], ◌∷◌}
use native.Mathlib.Omega.{arith}
use lib.IntN.{ℤ, pos}
use lib.ListN.{set}
use Rattle.answer.specs.Space.{Wrote}
use Rattle.answer.proofs.Spaces.{wrote_one, wrote_append}
use Rattle.plain.specs.Plain.{naturals, literals, head_literal, plain_clause}
use Rattle.meaning.specs.Book.{Clause}

-- a head
pub head_none : (h : ℕ) → h ≡ 0 → head_literal h ≡ []
unfolding head_literal
head_none zero e = refl
head_none (suc h) e = absurd (omega arith)

pub head_some : (h : ℕ) → (h ≡ 0 → ⊥) → head_literal h ≡ pos h ∷ []
unfolding head_literal
head_some zero e = absurd (e refl)
head_some (suc h) e = refl

-- a clause
pub clause_wrote : (c : Clause) (l : List ℤ) (at : ℕ) (o1 : List ℤ) (i : ℕ) (o2 : List ℤ) (j : ℕ) (o3 : List ℤ) (k : ℕ) (o4 : List ℤ)
    → Wrote l at (naturals c.groups) o1 i → Wrote o1 i (literals c.body) o2 j → Wrote o2 j (head_literal c.head) o3 k → o4 ≡ set o3 k (pos 0)
    → Wrote l at (plain_clause c) o4 (k + 1)
unfolding plain_clause
clause_wrote c l at o1 i o2 j o3 k o4 p q r e =
    let z : Wrote o3 k (pos 0 ∷ []) o4 (k + 1) = simp e (wrote_one o3 k (pos 0)) in
    wrote_append l at (naturals c.groups) o1 i _ o4 (k + 1) p
    (wrote_append o1 i (literals c.body) o2 j _ o4 (k + 1) q (wrote_append o2 j (head_literal c.head) o3 k (pos 0 ∷ []) o4 (k + 1) r z))
