-- Laws of the seed, and of the records that shut choices out.
--   explains_allows, explains_shuts      a listed explanation allows what does not contain it, and shuts out what does
--   repairs_allows, repairs_shuts        a listed repair allows what shares a group with it, and shuts out what is apart
--   allowed_none, allowed_first, allowed_snoc      records one after the other
--   allowed_at               each record allows what all of them allow
--   allowed_all              what each record allows, all of them allow
--   shut_at, shut_by         what a record shuts out is not allowed; what is not allowed is shut out by a record
--   largest_is, largest_one  `largest` is the largest, and only one answer is
--   largest_not, largest_yes      one number more
--   seed_is, seed_at, seed_lt     a seed is the largest of the allowed choices
--   complete_none, complete_some, none_complete    complete exactly where no seed remains
-- Assumes nothing.
use mathlib.Core.Path.{◌≡◌, refl, ap, ◌∙◌, subst}
use mathlib.Core.Logic.{◌↔◌, ◌⊎◌, inl, inr}
use mathlib.Core.Bool.{Bool, true, false, not, ◌&&◌, true≢false, false≢true}
use mathlib.Core.Option.{Option, some, none}
use mathlib.Core.List.Memᴰ
use mathlib.Core.List.{List, [], ◌∷◌, ◌++◌, Memᴰ}
use Prim.Native.Nat.{ℕ, zero, suc, ◌^◌, ◌≤◌, ◌<◌}
use native.Mathlib.Omega.{arith}
use native.Mathlib.Decide.{ℕ_discrete}
use borrow.Author.Tests.{eqb-true, eqb-false, eq-eqb, ne_eqb, not-true, not-false}
use lib.Dec.{eqb}
use lib.Bits.{bit_and}
use Rattle.answer.proofs.Tests.{and_left, and_right, and_both, holds_or, clash}
use Rattle.meaning.specs.Choice.{Inside, Apart, Meets}
use Rattle.rounds.specs.Records.{Record, explains, repairs, allows, allowed}
use Rattle.rounds.specs.Rounds.{largest, Largest, seed, is_none, complete}
use Rattle.rounds.proofs.Digits.{and_inside, and_apart, lt_or_ge, meets_or, not_both}

-- ---- what one record says
pub explains_allows : (e x : ℕ) → (allows (explains e) x ≡ true) ↔ (Inside e x → ⊥)
unfolding allows
explains_allows e x = (
  (λ o s. eqb-false (bit_and e x) e (not-true (eqb (bit_and e x) e) o) ((and_inside e x).1 s)),
  (λ f. ap not (ne_eqb (bit_and e x) e (λ q. f ((and_inside e x).0 q)))),
)

pub explains_shuts : (e x : ℕ) → (allows (explains e) x ≡ false) ↔ Inside e x
unfolding allows
explains_shuts e x = (
  (λ o. (and_inside e x).0 (eqb-true (bit_and e x) e (not-false (eqb (bit_and e x) e) o))),
  (λ s. ap not (eq-eqb (bit_and e x) e ((and_inside e x).1 s))),
)

pub repairs_shuts : (r x : ℕ) → (allows (repairs r) x ≡ false) ↔ Apart r x
unfolding allows
repairs_shuts r x = (
  (λ o. (and_apart r x).0 (eqb-true (bit_and r x) 0 (not-false (eqb (bit_and r x) 0) o))),
  (λ s. ap not (eq-eqb (bit_and r x) 0 ((and_apart r x).1 s))),
)

pub repairs_allows : (r x : ℕ) → (allows (repairs r) x ≡ true) ↔ Meets r x
unfolding allows
repairs_allows r x = (
  (λ o. go o (meets_or r x)),
  (λ m. ap not (ne_eqb (bit_and r x) 0 (λ q. not_both r x ((and_apart r x).0 q) m))),
)
  where
    go : not (eqb (bit_and r x) 0) ≡ true → Apart r x ⊎ Meets r x → Meets r x
    go o (inr m) = m
    go o (inl a) = absurd (eqb-false (bit_and r x) 0 (not-true (eqb (bit_and r x) 0) o) ((and_apart r x).1 a))

-- ---- records one after the other
pub allowed_none : (x : ℕ) → allowed [] x ≡ true
unfolding allowed
allowed_none x = refl

pub allowed_first : (r : Record) (rs : List Record) (x : ℕ) → allowed (r ∷ rs) x ≡ (allows r x && allowed rs x)
unfolding allowed
allowed_first r rs x = refl

pub allowed_snoc : (rs : List Record) (r : Record) (x : ℕ) → allowed (rs ++ (r ∷ [])) x ≡ (allowed rs x && allows r x)
unfolding allowed
allowed_snoc [] r x = go (allows r x)
  where
    go : (b : Bool) → (b && true) ≡ b
    go true = refl
    go false = refl
allowed_snoc (q ∷ rs) r x = go (allows q x) (allowed_snoc rs r x)
  where
    go : (b : Bool) → allowed (rs ++ (r ∷ [])) x ≡ (allowed rs x && allows r x) → (b && allowed (rs ++ (r ∷ [])) x) ≡ (b && allowed rs x && allows r x)
    go true e = e
    go false e = refl

pub allowed_at : (rs : List Record) (x : ℕ) (r : Record) → allowed rs x ≡ true → Memᴰ r rs → allows r x ≡ true
unfolding allowed
allowed_at [] x r a m = absurd (Memᴰ.not-nil m)
allowed_at (q ∷ rs) x r a m = go (λ k. allowed_at rs x r (and_right (allows q x) (allowed rs x) a) k) (Memᴰ.cases_cons m)
  where
    go : (Memᴰ r rs → allows r x ≡ true) → (r ≡ q) ⊎ Memᴰ r rs → allows r x ≡ true
    go ih (inl e) = ap (λ (z : Record). allows z x) e ∙ and_left (allows q x) (allowed rs x) a
    go ih (inr k) = ih k

pub allowed_all : (rs : List Record) (x : ℕ) → ((r : Record) → Memᴰ r rs → allows r x ≡ true) → allowed rs x ≡ true
unfolding allowed
allowed_all [] x f = refl
allowed_all (q ∷ rs) x f = and_both (allows q x) (allowed rs x) (f q (Memᴰ.head refl)) (allowed_all rs x (λ r m. f r (Memᴰ.tail m)))

pub shut_at : (rs : List Record) (x : ℕ) (r : Record) → Memᴰ r rs → allows r x ≡ false → allowed rs x ≡ false
shut_at rs x r m f = go (holds_or (allowed rs x))
  where
    go : (allowed rs x ≡ true) ⊎ (allowed rs x ≡ false) → allowed rs x ≡ false
    go (inr e) = e
    go (inl e) = absurd (clash (allows r x) (allowed_at rs x r e m) f)

pub shut_by : (rs : List Record) (x : ℕ) → allowed rs x ≡ false → (r : Record) × (Memᴰ r rs × (allows r x ≡ false))
unfolding allowed
shut_by [] x a = absurd (true≢false a)
shut_by (q ∷ rs) x a = go (allows q x) refl a (λ b. shut_by rs x b)
  where
    go : (b : Bool) → allows q x ≡ b → (b && allowed rs x) ≡ false → (allowed rs x ≡ false → (r : Record) × (Memᴰ r rs × (allows r x ≡ false)))
        → (r : Record) × (Memᴰ r (q ∷ rs) × (allows r x ≡ false))
    go false e f ih = (q, (Memᴰ.head refl, e))
    go true e f ih = let w = ih f in (w.0, (Memᴰ.tail w.1.0, w.1.1))

-- ---- the largest number that passes
module _ (p : ℕ → Bool) (k : ℕ) where
  none_more : p k ≡ false → (o : Option ℕ) → Largest p k o → Largest p (suc k) o
  none_more e none L = λ z l. pick z l (ℕ_discrete z k)
    where
      pick : (z : ℕ) → z < suc k → Dec (z ≡ k) → p z ≡ false
      pick z l (yes q) = ap p q ∙ e
      pick z l (no q) = L z (omega arith)
  none_more e (some y) L = (omega (arith, L.0), L.1, λ z l m. pick z l m (ℕ_discrete z k))
    where
      pick : (z : ℕ) → y < z → z < suc k → Dec (z ≡ k) → p z ≡ false
      pick z l m (yes q) = ap p q ∙ e
      pick z l m (no q) = L.2 z l (omega arith)

  pub largest_yes : p k ≡ true → largest p (suc k) ≡ some k
  unfolding largest
  largest_yes e = ap (λ (b : Bool). elim b as (λ _. Option ℕ) [ true ↦ some k | false ↦ largest p k ]) e

  pub largest_not : p k ≡ false → largest p (suc k) ≡ largest p k
  unfolding largest
  largest_not e = ap (λ (b : Bool). elim b as (λ _. Option ℕ) [ true ↦ some k | false ↦ largest p k ]) e

pub largest_is : (p : ℕ → Bool) (k : ℕ) → Largest p k (largest p k)
unfolding largest
largest_is p zero = λ z l. absurd (omega arith)
largest_is p (suc k) = go (p k) refl (largest p k) (largest_is p k)
  where
    go : (b : Bool) → p k ≡ b → (o : Option ℕ) → Largest p k o → Largest p (suc k) (elim b as (λ _. Option ℕ) [ true ↦ some k | false ↦ o ])
    go true e o L = (omega arith, e, λ z l m. absurd (omega arith))
    go false e o L = none_more p k e o L

pub largest_one : (p : ℕ → Bool) (k : ℕ) (a b : Option ℕ) → Largest p k a → Largest p k b → a ≡ b
largest_one p k none none t u = refl
largest_one p k none (some y) t u = absurd (clash (p y) u.1 (t y u.0))
largest_one p k (some x) none t u = absurd (clash (p x) t.1 (u x t.0))
largest_one p k (some x) (some y) t u = go (lt_or_ge x y) (lt_or_ge y x)
  where
    go : (x < y) ⊎ (y ≤ x) → (y < x) ⊎ (x ≤ y) → some x ≡ some y
    go (inl l) c = absurd (clash (p y) u.1 (t.2 y l u.0))
    go (inr l) (inl m) = absurd (clash (p x) t.1 (u.2 x m t.0))
    go (inr l) (inr m) = ap some (omega arith)

-- ---- the seed
module _ (n : ℕ) (rs : List Record) where
  pub seed_is : Largest (allowed rs) (2 ^ n) (seed n rs)
  unfolding seed
  seed_is = largest_is (allowed rs) (2 ^ n)

  -- what is known of an answer
  pub seed_at : (o : Option ℕ) → seed n rs ≡ o → Largest (allowed rs) (2 ^ n) o
  seed_at o e = subst (Largest (allowed rs) (2 ^ n)) e seed_is

  pub seed_lt : (s : ℕ) → seed n rs ≡ some s → s < 2 ^ n
  seed_lt s e = (seed_at (some s) e).0

  pub complete_none : seed n rs ≡ none → complete n rs ≡ true
  unfolding complete is_none
  complete_none e = ap is_none e

  pub complete_some : (s : ℕ) → seed n rs ≡ some s → complete n rs ≡ false
  unfolding complete is_none
  complete_some s e = ap is_none e

  pub none_complete : complete n rs ≡ true → seed n rs ≡ none
  unfolding complete is_none
  none_complete e = go (seed n rs) e
    where
      go : (o : Option ℕ) → is_none o ≡ true → o ≡ none
      go none q = refl
      go (some s) q = absurd (false≢true q)
