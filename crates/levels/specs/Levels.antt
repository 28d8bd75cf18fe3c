-- Levels: the groups of a choice come one after the other, and of each variable it is told at which group it is forced. Some groups are kept, and
-- there from the start; those of the pool come by their numbers, the lowest first.
--   never                  the level of what no group brings: one more than the highest group there can be
--   idle                   the level of a variable that is left aside
--   up_to kept pool t       the choice of the kept groups and of the pool's groups up to number t
--   group_level kept pool g      the level of group g: 0 for the core and a kept group, its number in the pool, and else never
--   level_of f v            the level of variable v by the list f, which has one for each variable
--   greatest l m ws        the greatest of m and of the levels l that some numbers have
--   clause_level kept pool f c   the greatest level of the clause's groups and of its body
--   lower f h l            the levels with that of the head h made at most l; no head changes none
--   turn kept pool c f     ... made at most the level of a clause that yields it
--   turns kept pool cs f   ... clause after clause
--   goal_level kept pool f m cs  the least of m and of the levels of the goals among some clauses
--   total f                the sum of the levels
--   below m f h            the head h has a level below m; no head has one
--   stands x m f c         a clause lets the levels stand below m where the choice x holds: it is not in force, or its head has a level below m, or one of its body has
--                          none
--   closed_below x m f cs   ... and so does each of some clauses
--   BrokenBy kept pool f cs r       one of some clauses is a goal whose level is at most r
--   carried_to g l, carried g f      levels after a pass that ended at group g, for the next, in which g is kept and only the pool's groups below it are
--                          left: what g brought is there with the last of those; what came later is forgotten; what is left aside stays so
--   granted_to l, granted f      levels with what is left aside taken for granted: there from the start
--   marks_at t f            the marks at a threshold: 1 for a level of at most t, and else 0
-- Of a book, at each threshold:
--   Settling b kept pool f      only variables that the choice up to there forces have so low a level
--   Settled b kept pool f       the variables of so low a level are those that the choice up to there forces
--   GoalLevel b kept pool r     the choice up to there is inconsistent exactly from threshold r on
-- Assumes nothing: these are definitions.
use Rattle.std.specs.Prelude.{ℕ, zero, suc, ◌+◌, ◌-◌, ◌%◌, ◌^◌, ◌≤◌, min, max, ◌≡◌, List, [], ◌∷◌, Bool, true, false, cond, not, ◌&&◌, ◌||◌, get_or, set, drop, eqb, leb, ltb}
use Rattle.meaning.specs.Book.{Clause, Book}
use Rattle.meaning.specs.Choice.{digit}
use Rattle.meaning.specs.Consistent.{in_force}
use Rattle.meaning.specs.Forced.{forced_in, inconsistent}
use Rattle.meaning.specs.Marks.{Partly}
use Rattle.book.specs.Bytes.{most_groups}

abbrev pub never : ℕ
never = most_groups + 1

abbrev pub idle : ℕ
idle = never + 1

abbrev pub up_to : ℕ → ℕ → ℕ → ℕ
up_to kept pool t = kept + pool % 2 ^ t

unfoldable pub group_level : ℕ → ℕ → ℕ → ℕ
group_level kept pool zero = 0
group_level kept pool (suc g) = cond (eqb (digit kept g) 1) 0 (cond (eqb (digit pool g) 1) (suc g) never)

unfoldable pub level_of : List ℕ → ℕ → ℕ
level_of f zero = never
level_of f (suc i) = get_or f i never

unfoldable pub greatest : (ℕ → ℕ) → ℕ → List ℕ → ℕ
greatest l m [] = m
greatest l m (w ∷ ws) = greatest l (max m (l w)) ws

abbrev pub clause_level : ℕ → ℕ → List ℕ → Clause → ℕ
clause_level kept pool f c = greatest (level_of f) (greatest (group_level kept pool) 0 c.groups) c.body

unfoldable pub lower : List ℕ → ℕ → ℕ → List ℕ
lower f zero l = f
lower f (suc h) l = set f h (min (get_or f h 0) l)

abbrev pub turn : ℕ → ℕ → Clause → List ℕ → List ℕ
turn kept pool c f = lower f c.head (clause_level kept pool f c)

unfoldable pub turns : ℕ → ℕ → List Clause → List ℕ → List ℕ
turns kept pool [] f = f
turns kept pool (c ∷ cs) f = turns kept pool cs (turn kept pool c f)

unfoldable pub goal_level : ℕ → ℕ → List ℕ → ℕ → List Clause → ℕ
goal_level kept pool f m [] = m
goal_level kept pool f m (c ∷ cs) = goal_level kept pool f (cond (eqb c.head 0) (min m (clause_level kept pool f c)) m) cs

unfoldable pub total : List ℕ → ℕ
total [] = 0
total (l ∷ f) = l + total f

unfoldable pub below : ℕ → List ℕ → ℕ → Bool
below m f zero = false
below m f (suc h) = ltb (get_or f h never) m

abbrev pub stands : ℕ → ℕ → List ℕ → Clause → Bool
stands x m f c = not (in_force x c) || (below m f c.head || leb m (greatest (level_of f) 0 c.body))

unfoldable pub closed_below : ℕ → ℕ → List ℕ → List Clause → Bool
closed_below x m f [] = true
closed_below x m f (c ∷ cs) = stands x m f c && closed_below x m f cs

pub record BrokenBy (kept pool : ℕ) (f : List ℕ) (cs : List Clause) (r : ℕ) : Type 0 where
  pub place : ℕ
  pub goal : Clause
  pub later : List Clause
  pub here : drop place cs ≡ goal ∷ later
  pub headless : goal.head ≡ 0
  pub low : clause_level kept pool f goal ≤ r

abbrev pub carried_to : ℕ → ℕ → ℕ
carried_to g l = cond (leb l g) (min l (g - 1)) (max never l)

unfoldable pub carried : ℕ → List ℕ → List ℕ
carried g [] = []
carried g (l ∷ f) = carried_to g l ∷ carried g f

abbrev pub granted_to : ℕ → ℕ
granted_to l = cond (leb l never) l 0

unfoldable pub granted : List ℕ → List ℕ
granted [] = []
granted (l ∷ f) = granted_to l ∷ granted f

unfoldable pub marks_at : ℕ → List ℕ → List ℕ
marks_at t [] = []
marks_at t (l ∷ f) = cond (leb l t) 1 0 ∷ marks_at t f

abbrev pub Settling : Book → ℕ → ℕ → List ℕ → Type 0
Settling b kept pool f = (t : ℕ) → t ≤ most_groups → Partly b (up_to kept pool t) (marks_at t f)

abbrev pub Settled : Book → ℕ → ℕ → List ℕ → Type 0
Settled b kept pool f = (t : ℕ) → t ≤ most_groups → marks_at t f ≡ forced_in b (up_to kept pool t)

pub record GoalLevel (b : Book) (kept pool r : ℕ) : Type 0 where
  pub most : r ≤ never
  pub breaks : (t : ℕ) → t ≤ most_groups → inconsistent b (up_to kept pool t) ≡ leb r t
