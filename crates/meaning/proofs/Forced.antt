-- The forced variables are the least closed set, whatever the order of marking.
--   forced_least         the marks of `forced` are the least set closed under the clauses with a head that are in force
--   least_one            two least sets are equal
--   partly_none, partly_mark, partly_pass, partly_more      no mark yet; what a clause adds; a pass; a larger choice
--   forced_partly        the forced variables themselves
--   forced_in_least       the same of a book
--   forced_any           clauses of the book, in any order and any number of times, after which every clause is quiet, mark the forced variables
--   forced_one           marks, made in any order, under which every clause is quiet are the forced variables
-- Assumes nothing.
use mathlib.Core.Path.{◌≡◌, refl, sym, ap, ◌∙◌, subst}
use mathlib.Core.Logic.{◌⊎◌, inl, inr}
use mathlib.Core.Bool.{Bool, true, false, ◌&&◌, cond}
use mathlib.Core.List.{List, [], ◌∷◌, Memᴰ}
use Prim.Native.Nat.{ℕ, zero, suc, ◌≤◌, ◌<◌}
use native.Mathlib.Omega.{arith}
use native.Mathlib.Decide.{ℕ_discrete, dec_lt}
use borrow.Author.Tests.{eqb-true, eq-eqb}
use lib.Dec.{eqb}
use lib.ListN.{length, get_or, set, replicate, length-replicate}
use lib.Seq.{get_or-set_same, get_or-set_other, set_out, ext_get_or}
use Rattle.answer.proofs.Tests.{clash}
use Rattle.meaning.specs.Book.{Clause, Book}
use Rattle.meaning.specs.Choice.{chosen, Inside}
use Rattle.meaning.specs.Consistent.{every, in_force}
use Rattle.meaning.specs.Forced.{Closed, Least, marked, put, mark, pass, passes, forced, forced_in}
use Rattle.meaning.specs.Marks.{Under, Flags, Partly, unmarked}
use Rattle.meaning.proofs.Choices.{chosen_more}
use Rattle.meaning.proofs.Marks.{every_more, mark_under, pass_under, passes_under, unmarked_le, unmarked_none, Heads, AllQuiet, length_mark, length_pass, length_passes, pass_or}

-- ---- the least closed set
passes_still : (k x : ℕ) (cs : List Clause) (f : List ℕ) → pass x cs f ≡ f → passes k x cs f ≡ f
unfolding passes
passes_still zero x cs f e = refl
passes_still (suc k) x cs f e = ap (passes k x cs) e ∙ passes_still k x cs f e

closed_none : (x : ℕ) (cs : List Clause) (f : List ℕ) → Heads (length f) cs → unmarked f ≡ 0 → Closed cs x (marked f)
unfolding marked
closed_none x cs f H u c m i b h e = unmarked_none f h u (omega (arith, H c m))

passes_closed : (k x : ℕ) (cs : List Clause) (f : List ℕ) → Heads (length f) cs → unmarked f ≤ k → Closed cs x (marked (passes k x cs f))
unfolding passes
passes_closed zero x cs f H u = closed_none x cs f H (omega arith)
passes_closed (suc k) x cs f H u = go (pass_or x cs f H) (λ w. passes_closed k x cs (pass x cs f) (λ c m. omega (arith, H c m, length_pass x cs f)) w)
  where
    go : ((pass x cs f ≡ f) × AllQuiet x f cs) ⊎ (unmarked (pass x cs f) < unmarked f)
        → (unmarked (pass x cs f) ≤ k → Closed cs x (marked (passes k x cs (pass x cs f)))) → Closed cs x (marked (passes k x cs (pass x cs f)))
    go (inr l) ih = ih (omega arith)
    go (inl w) ih = subst (λ (z : List ℕ). Closed cs x (marked z)) (sym (ap (passes k x cs) w.0 ∙ passes_still k x cs f w.0)) w.1

none_marked : (n v : ℕ) → marked (replicate n 0) v ≡ false
unfolding marked
none_marked n zero = refl
none_marked zero (suc i) = refl
none_marked (suc n) (suc zero) = refl
none_marked (suc n) (suc (suc i)) = none_marked n (suc i)

pub forced_least : (v : ℕ) (cs : List Clause) (x : ℕ) → Heads v cs → Least cs x (marked (forced v cs x))
unfolding forced
forced_least v cs x H =
    record {
      closed = passes_closed v x cs (replicate v 0) (λ c m. omega (arith, H c m, length-replicate {A = ℕ} v 0)) (omega (arith, unmarked_le (replicate v 0), length-replicate {A = ℕ} v 0));
      below = λ b K. passes_under cs x b K v (replicate v 0) (λ w e. absurd (clash (marked (replicate v 0) w) e (none_marked v w)));
    }

same_test : (a b : Bool) → (a ≡ true → b ≡ true) → (b ≡ true → a ≡ true) → a ≡ b
same_test true b f g = sym (f refl)
same_test false true f g = g refl
same_test false false f g = refl

pub least_one : (cs : List Clause) (x : ℕ) (a b : ℕ → Bool) → Least cs x a → Least cs x b → (v : ℕ) → a v ≡ b v
least_one cs x a b L M v = same_test (a v) (b v) (L.below b M.closed v) (M.below a L.closed v)

-- ---- each mark is 0 or 1
flags_put : (f : List ℕ) (h : ℕ) → Flags f → Flags (put f h)
unfolding put
flags_put f zero F i = F i
flags_put f (suc h) F i = go (ℕ_discrete i h) (dec_lt h (length f))
  where
    go : Dec (i ≡ h) → Dec (h < length f) → get_or (set f h 1) i 0 ≤ 1
    go (yes e) (yes l) = rw e (omega (arith, get_or-set_same f h 1 0 l))
    go (yes e) (no l) = rw e (omega (arith, F h, ap (λ (z : List ℕ). get_or z h 0) (set_out f h 1 (omega arith))))
    go (no o) l = omega (arith, F i, get_or-set_other f h i 1 0 o)

flags_none : (n : ℕ) → Flags (replicate n 0)
flags_none zero i = omega arith
flags_none (suc n) zero = omega arith
flags_none (suc n) (suc i) = flags_none n i

flags_mark : (x : ℕ) (c : Clause) (f : List ℕ) → Flags f → Flags (mark x c f)
flags_mark x c f F = go (in_force x c && every (marked f) c.body)
  where
    go : (t : Bool) → Flags (cond t (put f c.head) f)
    go true = flags_put f c.head F
    go false = F

flags_pass : (x : ℕ) (cs : List Clause) (f : List ℕ) → Flags f → Flags (pass x cs f)
unfolding pass
flags_pass x [] f F = F
flags_pass x (c ∷ cs) f F = flags_pass x cs (mark x c f) (flags_mark x c f F)

flags_passes : (k x : ℕ) (cs : List Clause) (f : List ℕ) → Flags f → Flags (passes k x cs f)
unfolding passes
flags_passes zero x cs f F = F
flags_passes (suc k) x cs f F = flags_passes k x cs (pass x cs f) (flags_pass x cs f F)

-- ---- marks that only clauses in force have made
module _ (b : Book) where
  pub partly_none : (x : ℕ) → Partly b x (replicate b.variables 0)
  partly_none x =
      record {
        length = length-replicate {A = ℕ} b.variables 0;
        flags = flags_none b.variables;
        sound = λ a K v e. absurd (clash (marked (replicate b.variables 0) v) e (none_marked b.variables v));
      }

  pub partly_mark : (x : ℕ) (f : List ℕ) (c : Clause) → Memᴰ c b.clauses → Partly b x f → Partly b x (mark x c f)
  partly_mark x f c m P =
      record {
        length = length_mark x c f ∙ P.length;
        flags = flags_mark x c f P.flags;
        sound = λ a K. mark_under b.clauses x a K c m f (P.sound a K);
      }

  pub partly_pass : (x : ℕ) (f : List ℕ) → Partly b x f → Partly b x (pass x b.clauses f)
  partly_pass x f P =
      record {
        length = length_pass x b.clauses f ∙ P.length;
        flags = flags_pass x b.clauses f P.flags;
        sound = λ a K. pass_under b.clauses x a K b.clauses (λ c m. m) f (P.sound a K);
      }

  pub partly_more : (x y : ℕ) (f : List ℕ) → Inside x y → Partly b x f → Partly b y f
  partly_more x y f s P =
      record {
        length = P.length;
        flags = P.flags;
        sound = λ a K. P.sound a (λ c m i w h e. K c m (every_more (chosen x) (chosen y) c.groups (chosen_more x y s) i) w h e);
      }

  pub forced_partly : (x : ℕ) → Heads b.variables b.clauses → Partly b x (forced_in b x)
  unfolding forced_in forced
  forced_partly x H =
      record {
        length = length_passes b.variables x b.clauses (replicate b.variables 0) ∙ length-replicate {A = ℕ} b.variables 0;
        flags = flags_passes b.variables x b.clauses (replicate b.variables 0) (flags_none b.variables);
        sound = λ a K. (forced_least b.variables b.clauses x H).below a K;
      }

-- ---- the order of marking does not matter
same_flag : (a b : ℕ) → a ≤ 1 → b ≤ 1 → (eqb a 1 ≡ true → eqb b 1 ≡ true) → (eqb b 1 ≡ true → eqb a 1 ≡ true) → a ≡ b
same_flag a b h k f g = go (ℕ_discrete a 1) (ℕ_discrete b 1)
  where
    go : Dec (a ≡ 1) → Dec (b ≡ 1) → a ≡ b
    go (yes e) q = omega (arith, eqb-true b 1 (f (eq-eqb a 1 e)))
    go (no o) (yes e) = omega (arith, eqb-true a 1 (g (eq-eqb b 1 e)))
    go (no o) (no q) = omega arith

same_marks : (f g : List ℕ) → length f ≡ length g → Flags f → Flags g → Under (marked g) f → Under (marked f) g → f ≡ g
unfolding marked
same_marks f g l F G u w = ext_get_or 0 f g l (λ i h. same_flag (get_or f i 0) (get_or g i 0) (F i) (G i) (u (suc i)) (w (suc i)))

pub forced_in_least : (b : Book) (x : ℕ) → Heads b.variables b.clauses → Least b.clauses x (marked (forced_in b x))
unfolding forced_in
forced_in_least b x H = forced_least b.variables b.clauses x H

pub forced_one : (b : Book) (x : ℕ) (f : List ℕ) → Heads b.variables b.clauses → Partly b x f → AllQuiet x f b.clauses → f ≡ forced_in b x
forced_one b x f H P Q =
    let L = forced_in_least b x H in
    let G = forced_partly b x H in
    same_marks f (forced_in b x) (P.length ∙ sym G.length) P.flags G.flags (P.sound (marked (forced_in b x)) L.closed) (L.below (marked f) Q)

partly_passed : (b : Book) (x : ℕ) (ds : List Clause) → ((c : Clause) → Memᴰ c ds → Memᴰ c b.clauses) → (f : List ℕ) → Partly b x f → Partly b x (pass x ds f)
unfolding pass
partly_passed b x [] i f P = P
partly_passed b x (d ∷ ds) i f P = partly_passed b x ds (λ c m. i c (Memᴰ.tail m)) (mark x d f) (partly_mark b x f d (i d (Memᴰ.head refl)) P)

pub forced_any : (b : Book) (x : ℕ) (ds : List Clause) → Heads b.variables b.clauses → ((c : Clause) → Memᴰ c ds → Memᴰ c b.clauses)
    → AllQuiet x (pass x ds (replicate b.variables 0)) b.clauses → pass x ds (replicate b.variables 0) ≡ forced_in b x
forced_any b x ds H i Q =
    let f = pass x ds (replicate b.variables 0) in
    forced_one b x f H (partly_passed b x ds i (replicate b.variables 0) (partly_none b x)) Q
