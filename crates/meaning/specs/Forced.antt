-- The variables that a choice forces, and the goals that it breaks.
--   Closed cs x a       the set a is closed under the clauses with a head that are in force
--   Least cs x a        a is the least such set
-- As a list of marks, 1 for a variable in the set and else 0:
--   marked f v          variable v has its mark
--   put f h             the marks with the head h added; no head adds none
--   mark x c f          ... with the head of a clause in force whose whole body is marked
--   pass x cs f         ... with what each clause adds, one after the other
--   passes k x cs f     ... after k passes
--   broken x f c        a goal clause in force whose whole body is marked
--   lowest x f k cs     the number of the first broken goal, the first clause having number k; 0 if there is none
--   Broken x f c        the same, as three facts
--   NoneBroken x f cs   no goal clause in force has its whole body marked
--   Lowest x f k cs n   clause n is the first broken goal of cs, the first clause having number k
--   forced v cs x       what is forced, of v variables: as many passes as there are variables, from none
-- Of a book:
--   forced_in b x        its forced variables
--   broken_in b x        its lowest broken goal, or 0
--   inconsistent b x    whether some goal is broken
-- Assumes nothing: these are definitions.
use Rattle.std.specs.Prelude.{ℕ, zero, suc, ◌+◌, ◌≡◌, Bool, true, false, not, ◌&&◌, cond, length, get_or, set, replicate, eqb}
use mathlib.Core.List.{List, [], ◌∷◌, ◌++◌, Memᴰ}
use Rattle.meaning.specs.Book.{Clause, Book}
use Rattle.meaning.specs.Consistent.{every, in_force}

abbrev pub Closed : List Clause → ℕ → (ℕ → Bool) → Type 0
Closed cs x a = (c : Clause) → Memᴰ c cs → in_force x c ≡ true → every a c.body ≡ true → (h : ℕ) → c.head ≡ suc h → a (suc h) ≡ true

pub record Least (cs : List Clause) (x : ℕ) (a : ℕ → Bool) : Type 0 where
  pub closed : Closed cs x a
  pub below : (b : ℕ → Bool) → Closed cs x b → (v : ℕ) → a v ≡ true → b v ≡ true

unfoldable pub marked : List ℕ → ℕ → Bool
marked f zero = false
marked f (suc i) = eqb (get_or f i 0) 1

unfoldable pub put : List ℕ → ℕ → List ℕ
put f zero = f
put f (suc h) = set f h 1

abbrev pub mark : ℕ → Clause → List ℕ → List ℕ
mark x c f = cond (in_force x c && every (marked f) c.body) (put f c.head) f

unfoldable pub pass : ℕ → List Clause → List ℕ → List ℕ
pass x [] f = f
pass x (c ∷ cs) f = pass x cs (mark x c f)

unfoldable pub passes : ℕ → ℕ → List Clause → List ℕ → List ℕ
passes zero x cs f = f
passes (suc k) x cs f = passes k x cs (pass x cs f)

unfoldable pub broken : ℕ → List ℕ → Clause → Bool
broken x f c = eqb c.head 0 && in_force x c && every (marked f) c.body

unfoldable pub lowest : ℕ → List ℕ → ℕ → List Clause → ℕ
lowest x f k [] = 0
lowest x f k (c ∷ cs) = cond (broken x f c) k (lowest x f (k + 1) cs)

pub record Broken (x : ℕ) (f : List ℕ) (c : Clause) : Type 0 where
  pub goal : c.head ≡ 0
  pub force : in_force x c ≡ true
  pub whole : every (marked f) c.body ≡ true

abbrev pub NoneBroken : ℕ → List ℕ → List Clause → Type 0
NoneBroken x f cs = (c : Clause) → Memᴰ c cs → broken x f c ≡ false

pub record Lowest (x : ℕ) (f : List ℕ) (k : ℕ) (cs : List Clause) (n : ℕ) : Type 0 where
  pub before : List Clause
  pub goal : Clause
  pub after : List Clause
  pub clauses : cs ≡ before ++ (goal ∷ after)
  pub number : n ≡ k + length before
  pub breaks : Broken x f goal
  pub first : NoneBroken x f before

unfoldable pub forced : ℕ → List Clause → ℕ → List ℕ
forced v cs x = passes v x cs (replicate v 0)

unfoldable pub forced_in : Book → ℕ → List ℕ
forced_in b x = forced b.variables b.clauses x

unfoldable pub broken_in : Book → ℕ → ℕ
broken_in b x = lowest x (forced_in b x) 1 b.clauses

unfoldable pub inconsistent : Book → ℕ → Bool
inconsistent b x = not (eqb (broken_in b x) 0)
