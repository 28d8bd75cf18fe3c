-- The forced variables decide whether a choice is consistent, and what is inside a consistent choice is consistent.
--   broken_is, lowest_empty, lowest_first      a goal, and goals one after the other
--   broken_parts, broken_whole      a broken goal, taken apart and put together
--   consistent_exactly    a choice is consistent exactly if none is broken by the forced variables
--   consistent_less       what is inside a consistent choice is consistent
--   lowest_none           the lowest broken goal is 0 exactly if none is broken
--   lowest_is             where the number is not 0, it is that of the lowest broken goal
--   consistent_in, broken_more      the same of a book: consistent exactly if its lowest broken goal is 0; inconsistent in every larger choice
-- Assumes nothing.
use mathlib.Core.Path.{◌≡◌, refl, ap, ◌∙◌, subst}
use mathlib.Core.Logic.{◌↔◌, ◌⊎◌, inl, inr, ◌≢◌}
use mathlib.Core.Bool.{Bool, true, false, ◌&&◌, cond}
use mathlib.Core.List.Memᴰ
use mathlib.Core.List.{List, [], ◌∷◌, Memᴰ}
use Prim.Native.Nat.{ℕ, zero, suc, ◌+◌, ◌<◌}
use native.Mathlib.Omega.{arith}
use borrow.Author.Tests.{eqb-true, eq-eqb}
use lib.Dec.{eqb}
use Rattle.answer.proofs.Tests.{and_left, and_right, and_both, holds_or, clash}
use Rattle.meaning.specs.Book.{Clause, Book}
use Rattle.meaning.specs.Choice.{chosen, Inside}
use Rattle.meaning.specs.Consistent.{every, in_force, Says, SatisfiesAll, Consistent}
use Rattle.meaning.specs.Forced.{Closed, Least, marked, forced, broken, lowest, Broken, NoneBroken, Lowest, forced_in, broken_in}
use Rattle.meaning.proofs.Choices.{chosen_more}
use Rattle.meaning.proofs.Marks.{every_more, Heads}
use Rattle.meaning.proofs.Forced.{forced_least}

-- a broken goal, taken apart and put together
pub broken_is : (x : ℕ) (f : List ℕ) (c : Clause) → broken x f c ≡ (eqb c.head 0 && in_force x c && every (marked f) c.body)
unfolding broken
broken_is x f c = refl

pub broken_parts : (x : ℕ) (f : List ℕ) (c : Clause) → broken x f c ≡ true → Broken x f c
unfolding broken
broken_parts x f c e =
    let d = and_left (eqb c.head 0 && in_force x c) (every (marked f) c.body) e in
    record {
      goal = eqb-true c.head 0 (and_left (eqb c.head 0) (in_force x c) d);
      force = and_right (eqb c.head 0) (in_force x c) d;
      whole = and_right (eqb c.head 0 && in_force x c) (every (marked f) c.body) e;
    }

pub broken_whole : (x : ℕ) (f : List ℕ) (c : Clause) → Broken x f c → broken x f c ≡ true
unfolding broken
broken_whole x f c B =
    and_both (eqb c.head 0 && in_force x c) (every (marked f) c.body)
    (and_both (eqb c.head 0) (in_force x c) (eq-eqb c.head 0 B.goal) B.force) B.whole

-- ---- the least closed set decides
satisfying_closed : (cs : List Clause) (x : ℕ) (a : ℕ → Bool) → SatisfiesAll a cs x → Closed cs x a
satisfying_closed cs x a s c m i b h e = subst (Says a) e (s c m i b)

pub consistent_exactly : (cs : List Clause) (x : ℕ) (f : List ℕ) → Least cs x (marked f) → Consistent cs x ↔ NoneBroken x f cs
consistent_exactly cs x f L = (there, back)
  where
    there : Consistent cs x → NoneBroken x f cs
    there C c m = go (holds_or (broken x f c))
      where
        go : (broken x f c ≡ true) ⊎ (broken x f c ≡ false) → broken x f c ≡ false
        go (inr e) = e
        go (inl e) =
            let B = broken_parts x f c e in
            let true-too = L.below C.0 (satisfying_closed cs x C.0 C.1) in
            absurd (subst (Says C.0) B.goal (C.1 c m B.force (every_more (marked f) C.0 c.body true-too B.whole)))

    back : NoneBroken x f cs → Consistent cs x
    back N = (marked f, λ c m i b. says c m i b c.head refl)
      where
        says : (c : Clause) → Memᴰ c cs → in_force x c ≡ true → every (marked f) c.body ≡ true → (h : ℕ) → c.head ≡ h → Says (marked f) h
        says c m i b zero q = clash (broken x f c) (broken_whole x f c (record { goal = q; force = i; whole = b })) (N c m)
        says c m i b (suc h) q = L.closed c m i b h q

pub consistent_less : (cs : List Clause) (x y : ℕ) → Inside x y → Consistent cs y → Consistent cs x
consistent_less cs x y s C = (C.0, λ c m i. C.1 c m (every_more (chosen x) (chosen y) c.groups (chosen_more x y s) i))

-- ---- the lowest broken goal
pub lowest_empty : (x : ℕ) (f : List ℕ) (k : ℕ) → lowest x f k [] ≡ 0
unfolding lowest
lowest_empty x f k = refl

pub lowest_first : (x : ℕ) (f : List ℕ) (k : ℕ) (c : Clause) (cs : List Clause) → lowest x f k (c ∷ cs) ≡ cond (broken x f c) k (lowest x f (k + 1) cs)
unfolding lowest
lowest_first x f k c cs = refl

none_first : (x : ℕ) (f : List ℕ) (c : Clause) (cs : List Clause) → broken x f c ≡ false → NoneBroken x f cs → NoneBroken x f (c ∷ cs)
none_first x f c cs e N d m = go (Memᴰ.cases_cons m)
  where
    go : (d ≡ c) ⊎ Memᴰ d cs → broken x f d ≡ false
    go (inl p) = ap (broken x f) p ∙ e
    go (inr m) = N d m

pub lowest_none : (x : ℕ) (f : List ℕ) (k : ℕ) (cs : List Clause) → 0 < k → NoneBroken x f cs ↔ (lowest x f k cs ≡ 0)
unfolding lowest
lowest_none x f k [] h = ((λ N. refl), (λ e c m. absurd (Memᴰ.not-nil m)))
lowest_none x f k (c ∷ cs) h = go (broken x f c) refl (lowest_none x f (k + 1) cs (omega arith))
  where
    go : (t : Bool) → broken x f c ≡ t → NoneBroken x f cs ↔ (lowest x f (k + 1) cs ≡ 0) → NoneBroken x f (c ∷ cs) ↔ (cond t k (lowest x f (k + 1) cs) ≡ 0)
    go true e ih = ((λ N. absurd (clash (broken x f c) e (N c (Memᴰ.head refl)))), (λ q. absurd (omega arith)))
    go false e ih = ((λ N. ih.0 (λ d m. N d (Memᴰ.tail m))), (λ q. none_first x f c cs e (ih.1 q)))

pub lowest_is : (x : ℕ) (f : List ℕ) (k : ℕ) (cs : List Clause) → lowest x f k cs ≢ 0 → Lowest x f k cs (lowest x f k cs)
unfolding lowest
lowest_is x f k [] o = absurd (o refl)
lowest_is x f k (c ∷ cs) o = go (broken x f c) refl o (lowest_is x f (k + 1) cs)
  where
    go : (t : Bool) → broken x f c ≡ t → cond t k (lowest x f (k + 1) cs) ≢ 0 → (lowest x f (k + 1) cs ≢ 0 → Lowest x f (k + 1) cs (lowest x f (k + 1) cs))
        → Lowest x f k (c ∷ cs) (cond t k (lowest x f (k + 1) cs))
    go true e q ih =
        record {
          before = [];
          goal = c;
          after = cs;
          clauses = refl;
          number = omega arith;
          breaks = broken_parts x f c e;
          first = λ d m. absurd (Memᴰ.not-nil m);
        }
    go false e q ih =
        let L = ih q in
        record {
          before = c ∷ L.before;
          goal = L.goal;
          after = L.after;
          clauses = ap (λ (ds : List Clause). c ∷ ds) L.clauses;
          number = omega (arith, L.number);
          breaks = L.breaks;
          first = none_first x f c L.before e L.first;
        }

-- ---- of a book
pub consistent_in : (b : Book) (x : ℕ) → Heads b.variables b.clauses → Consistent b.clauses x ↔ (broken_in b x ≡ 0)
unfolding forced_in broken_in
consistent_in b x H =
    let f = forced b.variables b.clauses x in
    let exactly = consistent_exactly b.clauses x f (forced_least b.variables b.clauses x H) in
    let none = lowest_none x f 1 b.clauses (omega arith) in
    ((λ C. none.0 (exactly.0 C)), (λ e. exactly.1 (none.1 e)))

pub broken_more : (b : Book) (x y : ℕ) → Heads b.variables b.clauses → Inside x y → broken_in b x ≢ 0 → broken_in b y ≢ 0
broken_more b x y H s o e = o ((consistent_in b x H).0 (consistent_less b.clauses x y s ((consistent_in b y H).1 e)))
