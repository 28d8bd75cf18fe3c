-- Explanations and repairs of a book, by the test whether a choice is inconsistent.
--   fine_exactly             a choice is consistent exactly if the test says so
--   inconsistent_more        what is inconsistent is so in every larger choice
--   explanation_as, repair_as      explanations and repairs, by another word for consistent
--   explanation_tested, repair_tested      ... by the test
--   every_at                 what passes a test of each number passes it of one
--   consistent_grown         clauses that name a group outside the choice change nothing
--   inconsistent_grown       ... and the test finds the same
-- Assumes nothing.
use mathlib.Core.Path.{◌≡◌, refl, sym, ap, ◌∙◌}
use mathlib.Core.Logic.{◌↔◌, ◌⊎◌, inl, inr}
use mathlib.Core.Bool.{Bool, true, false, not}
use mathlib.Core.List.Memᴰ
use mathlib.Core.List.{List, [], ◌∷◌, Memᴰ}
use Prim.Native.Nat.{ℕ, suc, ◌+◌, ◌-◌, ◌^◌, ◌<◌}
use native.Mathlib.Omega.{arith}
use borrow.Author.Tests.{eqb-true, eqb-false, eq-eqb, ne_eqb, not-true, not-false}
use lib.Dec.{eqb}
use Rattle.answer.proofs.Tests.{and_left, and_right}
use Rattle.meaning.specs.Book.{Clause, Book}
use Rattle.meaning.specs.Choice.{digit, chosen, Inside, complement}
use Rattle.meaning.specs.Consistent.{every, in_force, Satisfies, Consistent}
use Rattle.meaning.specs.Forced.{broken_in, inconsistent}
use Rattle.meaning.specs.Explanation.{Explanation, Repair, ConsistentIn, ExplanationOf, RepairOf}
use Rattle.meaning.proofs.Choices.{digit_high, chosen_group}
use Rattle.meaning.proofs.Marks.{Heads}
use Rattle.meaning.proofs.Deciding.{consistent_in, broken_more}

-- ---- the test
module _ (b : Book) (H : Heads b.variables b.clauses) where
  pub fine_exactly : (x : ℕ) → ConsistentIn b x ↔ (inconsistent b x ≡ false)
  unfolding inconsistent
  fine_exactly x = (
    (λ C. ap not (eq-eqb (broken_in b x) 0 ((consistent_in b x H).0 C))),
    (λ e. (consistent_in b x H).1 (eqb-true (broken_in b x) 0 (not-false (eqb (broken_in b x) 0) e))),
  )

  pub inconsistent_more : (x y : ℕ) → Inside x y → inconsistent b x ≡ true → inconsistent b y ≡ true
  unfolding inconsistent
  inconsistent_more x y s e = ap not (ne_eqb (broken_in b y) 0 (broken_more b x y H s (eqb-false (broken_in b x) 0 (not-true (eqb (broken_in b x) 0) e))))

-- ---- by another word for consistent
module _ (n : ℕ) (F G : ℕ → Type 0) (same : (x : ℕ) → F x ↔ G x) where
  pub explanation_as : (x : ℕ) → Explanation n F x → Explanation n G x
  explanation_as x E = record { within = E.within; broken = λ g. E.broken ((same x).1 g); least = λ g d. (same (x - 2 ^ g)).0 (E.least g d) }

  pub repair_as : (x : ℕ) → Repair n F x → Repair n G x
  repair_as x R =
      record { within = R.within; mends = (same (complement n x)).0 R.mends; needed = λ g d f. R.needed g d ((same (complement n x + 2 ^ g)).1 f) }

module _ (b : Book) (H : Heads b.variables b.clauses) (x : ℕ) where
  abbrev Tested : ℕ → Type 0
  Tested y = inconsistent b y ≡ false

  tested : (y : ℕ) → Tested y ↔ ConsistentIn b y
  tested y = ((fine_exactly b H y).1, (fine_exactly b H y).0)

  pub explanation_tested : ExplanationOf b x ↔ Explanation b.groups (λ y. inconsistent b y ≡ false) x
  explanation_tested = (explanation_as b.groups (ConsistentIn b) Tested (fine_exactly b H) x, explanation_as b.groups Tested (ConsistentIn b) tested x)

  pub repair_tested : RepairOf b x ↔ Repair b.groups (λ y. inconsistent b y ≡ false) x
  repair_tested = (repair_as b.groups (ConsistentIn b) Tested (fine_exactly b H) x, repair_as b.groups Tested (ConsistentIn b) tested x)

-- ---- clauses more
pub every_at : (a : ℕ → Bool) (ws : List ℕ) (w : ℕ) → every a ws ≡ true → Memᴰ w ws → a w ≡ true
unfolding every
every_at a [] w e m = absurd (Memᴰ.not-nil m)
every_at a (v ∷ ws) w e m = go (Memᴰ.cases_cons m) (every_at a ws w (and_right (a v) (every a ws) e))
  where
    go : (w ≡ v) ⊎ Memᴰ w ws → (Memᴰ w ws → a w ≡ true) → a w ≡ true
    go (inl q) ih = ap a q ∙ and_left (a v) (every a ws) e
    go (inr k) ih = ih k

module _ (n : ℕ) (cs ds : List Clause)
    (old : (c : Clause) → Memᴰ c cs → Memᴰ c ds)
    (new : (c : Clause) → Memᴰ c ds → Memᴰ c cs ⊎ Memᴰ (suc n) c.groups) where
  pub consistent_grown : (x : ℕ) → x < 2 ^ n → Consistent ds x ↔ Consistent cs x
  consistent_grown x h = ((λ C. (C.0, λ c m i. C.1 c (old c m) i)), (λ C. (C.0, λ c m i. pick C c i (new c m))))
    where
      pick : (C : Consistent cs x) (c : Clause) → in_force x c ≡ true → Memᴰ c cs ⊎ Memᴰ (suc n) c.groups → Satisfies C.0 c
      pick C c i (inl m) = C.1 c m i
      pick C c i (inr m) =
          absurd (omega (arith, eqb-true (digit x n) 1 (sym (chosen_group x n) ∙ every_at (chosen x) c.groups (suc n) i m), digit_high n x n h (omega arith)))

same_by : (a b : Bool) → (a ≡ false → b ≡ false) → (b ≡ false → a ≡ false) → a ≡ b
same_by true true f g = refl
same_by true false f g = g refl
same_by false true f g = sym (f refl)
same_by false false f g = refl

pub inconsistent_grown : (b c : Book) → Heads b.variables b.clauses → Heads c.variables c.clauses
    → ((d : Clause) → Memᴰ d b.clauses → Memᴰ d c.clauses)
    → ((d : Clause) → Memᴰ d c.clauses → Memᴰ d b.clauses ⊎ Memᴰ (suc b.groups) d.groups)
    → (x : ℕ) → x < 2 ^ b.groups → inconsistent c x ≡ inconsistent b x
inconsistent_grown b c H J old new x h =
    let same = consistent_grown b.groups b.clauses c.clauses old new x h in
    same_by (inconsistent c x) (inconsistent b x)
    (λ e. (fine_exactly b H x).0 (same.0 ((fine_exactly c J x).1 e)))
    (λ e. (fine_exactly c J x).0 (same.1 ((fine_exactly b H x).1 e)))
