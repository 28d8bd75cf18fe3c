-- What a clause adds to the marks, and what a pass does.
--   every_more                   what passes a test passes every weaker one
--   mark_on, mark_off            what a clause adds, by whether it is in force with its whole body marked
--   mark_same                    ... or by what its head would add
--   put_none, put_some, put_old  a head more, by the head
--   marked_at                    a variable's mark
--   every_none, every_first      a test of each number, by the first
--   first_none, first_here, first_later, first_some      the first unmarked one, by the first number, and what it says
--   pass_none, pass_first        clauses one after the other
--   in_force_one                 a clause of one group is in force where that group is chosen
--   put_under, mark_under, pass_under, passes_under      a head, a clause, a pass and passes keep to a closed set
--   unmarked_le, unmarked_set, unmarked_none      how many marks are missing
--   length_put, length_mark, length_pass, length_passes      how many marks there are stays
--   Quiet x f c, AllQuiet        clause c adds nothing to the marks f; each of some clauses
--   Heads n cs                   each head is at most n
--   mark_or                      a clause is quiet, or a mark less is missing after it
--   pass_or                      a pass changes nothing and every clause is quiet, or fewer marks are missing after it
-- Assumes nothing.
use mathlib.Core.Path.{◌≡◌, refl, sym, ap, ◌∙◌, subst}
use mathlib.Core.Logic.{◌⊎◌, inl, inr, ◌≢◌}
use mathlib.Core.Bool.{Bool, true, false, ◌&&◌, cond, false≢true}
use mathlib.Core.List.Memᴰ
use mathlib.Core.List.{List, [], ◌∷◌, Memᴰ}
use Prim.Native.Nat.{ℕ, zero, suc, ◌-◌, ◌≤◌, ◌<◌}
use native.Mathlib.Omega.{arith}
use native.Mathlib.Decide.{ℕ_discrete}
use borrow.Author.Tests.{eqb-true}
use lib.Dec.{eqb}
use lib.ListN.{length, get_or, set, length-set}
use lib.Seq.{get_or-set_other, set-get_or}
use Rattle.answer.proofs.Tests.{and_left, and_right, and_both, holds_or, clash}
use Rattle.meaning.specs.Book.{Clause, clause_from}
use Rattle.meaning.specs.Choice.{chosen}
use Rattle.meaning.specs.Consistent.{every, in_force}
use Rattle.meaning.specs.Forced.{Closed, marked, put, mark, pass, passes}
use Rattle.meaning.specs.Marks.{Under, first_unmarked, unmarked}

pub every_more : (a b : ℕ → Bool) (ws : List ℕ) → ((v : ℕ) → a v ≡ true → b v ≡ true) → every a ws ≡ true → every b ws ≡ true
unfolding every
every_more a b [] f e = refl
every_more a b (w ∷ ws) f e = and_both (b w) (every b ws) (f w (and_left (a w) (every a ws) e)) (every_more a b ws f (and_right (a w) (every a ws) e))

-- ---- what a clause adds
pub mark_on : (x : ℕ) (c : Clause) (f : List ℕ) → in_force x c ≡ true → every (marked f) c.body ≡ true → mark x c f ≡ put f c.head
mark_on x c f i w = ap (λ (t : Bool). cond t (put f c.head) f) (and_both (in_force x c) (every (marked f) c.body) i w)

pub mark_off : (x : ℕ) (c : Clause) (f : List ℕ) → (in_force x c && every (marked f) c.body) ≡ false → mark x c f ≡ f
mark_off x c f e = ap (λ (t : Bool). cond t (put f c.head) f) e

pub mark_same : (x : ℕ) (c : Clause) (f : List ℕ) → put f c.head ≡ f → mark x c f ≡ f
mark_same x c f e = go (in_force x c && every (marked f) c.body)
  where
    go : (t : Bool) → cond t (put f c.head) f ≡ f
    go true = e
    go false = refl

pub put_none : (f : List ℕ) (h : ℕ) → h ≡ 0 → put f h ≡ f
unfolding put
put_none f zero e = refl
put_none f (suc h) e = absurd (omega arith)

pub put_some : (f : List ℕ) (h : ℕ) → h ≢ 0 → put f h ≡ set f (h - 1) 1
unfolding put
put_some f zero o = absurd (o refl)
put_some f (suc h) o = let e : h ≡ suc h - 1 = omega arith in ap (λ (i : ℕ). set f i 1) e

pub put_old : (f : List ℕ) (h : ℕ) → h ≢ 0 → get_or f (h - 1) 0 ≡ 1 → put f h ≡ f
put_old f h o e = put_some f h o ∙ ap (set f (h - 1)) (sym e) ∙ set-get_or f (h - 1) 0

pub marked_at : (f : List ℕ) (w : ℕ) → 1 ≤ w → marked f w ≡ eqb (get_or f (w - 1) 0) 1
unfolding marked
marked_at f zero h = absurd (omega arith)
marked_at f (suc i) h = let e : i ≡ suc i - 1 = omega arith in ap (λ (k : ℕ). eqb (get_or f k 0) 1) e

-- ---- numbers one after the other
pub every_none : (a : ℕ → Bool) → every a [] ≡ true
unfolding every
every_none a = refl

pub every_first : (a : ℕ → Bool) (w : ℕ) (ws : List ℕ) → every a (w ∷ ws) ≡ (a w && every a ws)
unfolding every
every_first a w ws = refl

module _ (f : List ℕ) where
  pub first_none : first_unmarked f [] ≡ 0
  unfolding first_unmarked
  first_none = refl

  pub first_here : (w : ℕ) (ws : List ℕ) → marked f w ≡ false → first_unmarked f (w ∷ ws) ≡ w
  unfolding first_unmarked
  first_here w ws e = ap (λ (t : Bool). cond t (first_unmarked f ws) w) e

  pub first_later : (w : ℕ) (ws : List ℕ) → marked f w ≡ true → first_unmarked f (w ∷ ws) ≡ first_unmarked f ws
  unfolding first_unmarked
  first_later w ws e = ap (λ (t : Bool). cond t (first_unmarked f ws) w) e

  -- a variable without a mark, wherever it stands
  pub first_some : (ws : List ℕ) → first_unmarked f ws ≢ 0 → every (marked f) ws ≡ false
  unfolding first_unmarked every
  first_some [] o = absurd (o refl)
  first_some (w ∷ ws) o = go (marked f w) o (first_some ws)
    where
      go : (t : Bool) → cond t (first_unmarked f ws) w ≢ 0 → (first_unmarked f ws ≢ 0 → every (marked f) ws ≡ false) → (t && every (marked f) ws) ≡ false
      go true q ih = ih q
      go false q ih = refl

and_true : (a : Bool) → (a && true) ≡ a
and_true true = refl
and_true false = refl

pub in_force_one : (x g h : ℕ) (ws : List ℕ) → in_force x (clause_from (g ∷ []) h ws) ≡ chosen x g
in_force_one x g h ws = every_first (chosen x) g [] ∙ ap (λ (b : Bool). chosen x g && b) (every_none (chosen x)) ∙ and_true (chosen x g)

-- ---- clauses one after the other
pub pass_none : (x : ℕ) (f : List ℕ) → pass x [] f ≡ f
unfolding pass
pass_none x f = refl

pub pass_first : (x : ℕ) (c : Clause) (cs : List Clause) (f : List ℕ) → pass x (c ∷ cs) f ≡ pass x cs (mark x c f)
unfolding pass
pass_first x c cs f = refl

-- ---- every mark is in the set b
pub put_under : (b : ℕ → Bool) (f : List ℕ) (h : ℕ) → Under b f → ((k : ℕ) → h ≡ suc k → b (suc k) ≡ true) → Under b (put f h)
unfolding put marked
put_under b f zero u k v e = u v e
put_under b f (suc h) u k zero e = absurd (false≢true e)
put_under b f (suc h) u k (suc i) e = go (ℕ_discrete i h)
  where
    go : Dec (i ≡ h) → b (suc i) ≡ true
    go (yes q) = rw q (k h refl)
    go (no o) = u (suc i) (ap (λ (z : ℕ). eqb z 1) (sym (get_or-set_other f h i 1 0 o)) ∙ e)

pub mark_under : (cs : List Clause) (x : ℕ) (b : ℕ → Bool) → Closed cs x b → (c : Clause) → Memᴰ c cs → (f : List ℕ) → Under b f → Under b (mark x c f)
mark_under cs x b K c m f u = go (holds_or (in_force x c && every (marked f) c.body))
  where
    go : ((in_force x c && every (marked f) c.body) ≡ true) ⊎ ((in_force x c && every (marked f) c.body) ≡ false) → Under b (mark x c f)
    go (inr e) = subst (Under b) (sym (mark_off x c f e)) u
    go (inl e) =
        let i : in_force x c ≡ true = and_left (in_force x c) (every (marked f) c.body) e in
        let w : every (marked f) c.body ≡ true = and_right (in_force x c) (every (marked f) c.body) e in
        subst (Under b) (sym (mark_on x c f i w)) (put_under b f c.head u (λ k q. K c m i (every_more (marked f) b c.body u w) k q))

pub pass_under : (cs : List Clause) (x : ℕ) (b : ℕ → Bool) → Closed cs x b → (ds : List Clause) → ((c : Clause) → Memᴰ c ds → Memᴰ c cs) → (f : List ℕ) → Under b f → Under b (pass x ds f)
unfolding pass
pass_under cs x b K [] i f u = u
pass_under cs x b K (d ∷ ds) i f u = pass_under cs x b K ds (λ c m. i c (Memᴰ.tail m)) (mark x d f) (mark_under cs x b K d (i d (Memᴰ.head refl)) f u)

pub passes_under : (cs : List Clause) (x : ℕ) (b : ℕ → Bool) → Closed cs x b → (k : ℕ) (f : List ℕ) → Under b f → Under b (passes k x cs f)
unfolding passes
passes_under cs x b K zero f u = u
passes_under cs x b K (suc k) f u = passes_under cs x b K k (pass x cs f) (pass_under cs x b K cs (λ c m. m) f u)

-- ---- how many marks are missing
abbrev one : Bool → ℕ
one t = cond t 0 1

one_le : (t : Bool) → one t ≤ 1
one_le true = omega arith
one_le false = omega arith

pub unmarked_le : (f : List ℕ) → unmarked f ≤ length f
unfolding unmarked
unmarked_le [] = omega arith
unmarked_le (b ∷ f) = omega (arith, unmarked_le f, one_le (eqb b 1))

pub unmarked_set : (f : List ℕ) (h : ℕ) → h < length f → eqb (get_or f h 0) 1 ≡ false → suc (unmarked (set f h 1)) ≡ unmarked f
unfolding unmarked
unmarked_set [] h l e = absurd (omega arith)
unmarked_set (b ∷ f) zero l e = omega (arith, ap one e)
unmarked_set (b ∷ f) (suc h) l e = omega (arith, unmarked_set f h (omega arith) e)

one_none : (t : Bool) → one t ≡ 0 → t ≡ true
one_none true e = refl
one_none false e = absurd (omega arith)

pub unmarked_none : (f : List ℕ) (h : ℕ) → unmarked f ≡ 0 → h < length f → eqb (get_or f h 0) 1 ≡ true
unfolding unmarked
unmarked_none [] h u l = absurd (omega arith)
unmarked_none (b ∷ f) zero u l = one_none (eqb b 1) (omega arith)
unmarked_none (b ∷ f) (suc h) u l = unmarked_none f h (omega arith) (omega arith)

-- ---- a clause that adds nothing
abbrev pub Quiet : ℕ → List ℕ → Clause → Type 0
Quiet x f c = in_force x c ≡ true → every (marked f) c.body ≡ true → (h : ℕ) → c.head ≡ suc h → marked f (suc h) ≡ true

pub length_put : (f : List ℕ) (h : ℕ) → length (put f h) ≡ length f
unfolding put
length_put f zero = refl
length_put f (suc h) = length-set f h 1

pub length_mark : (x : ℕ) (c : Clause) (f : List ℕ) → length (mark x c f) ≡ length f
length_mark x c f = go (in_force x c && every (marked f) c.body)
  where
    go : (t : Bool) → length (cond t (put f c.head) f) ≡ length f
    go true = length_put f c.head
    go false = refl

pub length_pass : (x : ℕ) (cs : List Clause) (f : List ℕ) → length (pass x cs f) ≡ length f
unfolding pass
length_pass x [] f = refl
length_pass x (c ∷ cs) f = length_pass x cs (mark x c f) ∙ length_mark x c f

pub length_passes : (k x : ℕ) (cs : List Clause) (f : List ℕ) → length (passes k x cs f) ≡ length f
unfolding passes
length_passes zero x cs f = refl
length_passes (suc k) x cs f = length_passes k x cs (pass x cs f) ∙ length_pass x cs f

put_or : (f : List ℕ) (h : ℕ) → h ≤ length f → ((put f h ≡ f) × ((k : ℕ) → h ≡ suc k → marked f (suc k) ≡ true)) ⊎ (suc (unmarked (put f h)) ≡ unmarked f)
unfolding put marked
put_or f zero l = inl (refl, λ k e. absurd (omega arith))
put_or f (suc h) l = go (holds_or (eqb (get_or f h 0) 1))
  where
    go : (eqb (get_or f h 0) 1 ≡ true) ⊎ (eqb (get_or f h 0) 1 ≡ false) → ((set f h 1 ≡ f) × ((k : ℕ) → suc h ≡ suc k → eqb (get_or f k 0) 1 ≡ true)) ⊎ (suc (unmarked (set f h 1)) ≡ unmarked f)
    go (inl e) = inl (ap (set f h) (sym (eqb-true (get_or f h 0) 1 e)) ∙ set-get_or f h 0, λ k q. ap (λ (z : ℕ). eqb (get_or f z 0) 1) (let s : k ≡ h = omega arith in s) ∙ e)
    go (inr e) = inr (unmarked_set f h (omega arith) e)

-- a clause changes nothing and is quiet, or a mark less is missing
pub mark_or : (x : ℕ) (c : Clause) (f : List ℕ) → c.head ≤ length f → ((mark x c f ≡ f) × Quiet x f c) ⊎ (suc (unmarked (mark x c f)) ≡ unmarked f)
mark_or x c f l = go (in_force x c && every (marked f) c.body) refl (put_or f c.head l)
  where
    go : (t : Bool) → (in_force x c && every (marked f) c.body) ≡ t
        → ((put f c.head ≡ f) × ((k : ℕ) → c.head ≡ suc k → marked f (suc k) ≡ true)) ⊎ (suc (unmarked (put f c.head)) ≡ unmarked f)
        → ((cond t (put f c.head) f ≡ f) × Quiet x f c) ⊎ (suc (unmarked (cond t (put f c.head) f)) ≡ unmarked f)
    go false e p = inl (refl, λ i b h q. absurd (clash (in_force x c && every (marked f) c.body) (and_both (in_force x c) (every (marked f) c.body) i b) e))
    go true e (inl p) = inl (p.0, λ i b h q. p.1 h q)
    go true e (inr p) = inr p

abbrev pub Heads : ℕ → List Clause → Type 0
Heads n cs = (c : Clause) → Memᴰ c cs → c.head ≤ n

abbrev pub AllQuiet : ℕ → List ℕ → List Clause → Type 0
AllQuiet x f cs = (c : Clause) → Memᴰ c cs → Quiet x f c

later : (n m : ℕ) (c : Clause) (cs : List Clause) → n ≡ m → Heads m (c ∷ cs) → Heads n cs
later n m c cs e H d k = omega (arith, H d (Memᴰ.tail k))

pass_le : (x : ℕ) (cs : List Clause) (f : List ℕ) → Heads (length f) cs → unmarked (pass x cs f) ≤ unmarked f
unfolding pass
pass_le x [] f H = omega arith
pass_le x (c ∷ cs) f H = go (mark_or x c f (H c (Memᴰ.head refl))) (pass_le x cs (mark x c f) (later (length (mark x c f)) (length f) c cs (length_mark x c f) H))
  where
    go : ((mark x c f ≡ f) × Quiet x f c) ⊎ (suc (unmarked (mark x c f)) ≡ unmarked f) → unmarked (pass x cs (mark x c f)) ≤ unmarked (mark x c f) → unmarked (pass x cs (mark x c f)) ≤ unmarked f
    go (inl w) l = omega (arith, ap unmarked w.0)
    go (inr w) l = omega arith

pub pass_or : (x : ℕ) (cs : List Clause) (f : List ℕ) → Heads (length f) cs → ((pass x cs f ≡ f) × AllQuiet x f cs) ⊎ (unmarked (pass x cs f) < unmarked f)
unfolding pass
pass_or x [] f H = inl (refl, λ c m. absurd (Memᴰ.not-nil m))
pass_or x (d ∷ cs) f H =
    go (mark_or x d f (H d (Memᴰ.head refl))) (pass_or x cs f (λ c m. H c (Memᴰ.tail m)))
    (pass_le x cs (mark x d f) (later (length (mark x d f)) (length f) d cs (length_mark x d f) H))
  where
    go : ((mark x d f ≡ f) × Quiet x f d) ⊎ (suc (unmarked (mark x d f)) ≡ unmarked f)
        → ((pass x cs f ≡ f) × AllQuiet x f cs) ⊎ (unmarked (pass x cs f) < unmarked f)
        → unmarked (pass x cs (mark x d f)) ≤ unmarked (mark x d f)
        → ((pass x cs (mark x d f) ≡ f) × AllQuiet x f (d ∷ cs)) ⊎ (unmarked (pass x cs (mark x d f)) < unmarked f)
    go (inr w) r l = inr (omega arith)
    go (inl w) (inr r) l = inr (omega (arith, ap (λ (z : List ℕ). unmarked (pass x cs z)) w.0))
    go (inl w) (inl r) l = inl (ap (pass x cs) w.0 ∙ r.0, λ c m. pick c (Memᴰ.cases_cons m))
      where
        pick : (c : Clause) → (c ≡ d) ⊎ Memᴰ c cs → Quiet x f c
        pick c (inl e) = subst (Quiet x f) (sym e) w.1
        pick c (inr m) = r.1 c m
