-- Levels and marks: at each threshold the levels of at most that are the marks, and a clause's turn is what the clause adds to them.
--   apart_up_to        what is kept is apart from the pool's groups up to a number
--   or_up_to           both together are the choice up to that number
--   group_at           a group's level is at most the threshold exactly if the group is chosen there
--   every_greatest     the greatest of some levels is so exactly if each is
--   default_any        a level that is in the list, whatever is told of others
--   length_marks       a mark for each level
--   marked_at          a variable's level is so exactly if it has its mark
--   clause_at          a clause's level is so exactly if it is in force there with its whole body marked
--   turn_at, turns_at  a turn, and turns clause after clause, at a threshold
--   goal_at, goal_le   the least level of the goals, at a threshold, and its bound
--   high_at            only levels of never and above, at a threshold: no mark
-- Assumes nothing.
use Prim.Native.Nat.{ℕ, zero, suc, ◌+◌, ◌%◌, ◌^◌, ◌≤◌, ◌<◌, min, max}
use mathlib.Core.Path.{◌≡◌, refl, sym, ap, ◌∙◌}
use mathlib.Core.Logic.{◌⊎◌, inl, inr}
use mathlib.Core.List.{List, [], ◌∷◌}
use mathlib.Core.Bool.{Bool, true, false, not, cond, ◌&&◌, ◌||◌}
use native.Mathlib.Nat.{mod-lt}
use native.Mathlib.Omega.{arith}
use lib.Pow.{pow_pos}
use lib.ListN.{length, get_or, set, replicate}
use lib.Seq.{set_out, set-get_or}
use lib.Bits.{bit_or}
use lib.Dec.{eqb, leb, leb-zero}
use borrow.Author.Tests.{le-leb, lt-leb, leb-true, leb-false, eq-eqb, ne_eqb}
use Rattle.meaning.specs.Book.{Clause}
use Rattle.meaning.specs.Choice.{digit, chosen, Apart}
use Rattle.meaning.specs.Consistent.{every, in_force}
use Rattle.meaning.specs.Forced.{marked, put, mark, pass, broken, lowest}
use Rattle.meaning.proofs.Choices.{digit_or, digit_high, chosen_core, chosen_group}
use Rattle.meaning.proofs.Deciding.{broken_is, lowest_empty, lowest_first}
use Rattle.rounds.proofs.Digits.{digit_either, digits_same, lt_or_ge, mod_low, digit_sum}
use Rattle.book.specs.Bytes.{most_groups}
use Rattle.levels.specs.Levels.{never, up_to, group_level, level_of, greatest, clause_level, lower, turn, turns, goal_level, marks_at}

-- ---- groups
-- the groups of the pool up to number t
up_to_lem : (pool t g : ℕ) → ((g < t) × (digit (pool % 2 ^ t) g ≡ digit pool g)) ⊎ ((t ≤ g) × (digit (pool % 2 ^ t) g ≡ 0))
up_to_lem pool t g = go (lt_or_ge g t)
  where
    go : (g < t) ⊎ (t ≤ g) → ((g < t) × (digit (pool % 2 ^ t) g ≡ digit pool g)) ⊎ ((t ≤ g) × (digit (pool % 2 ^ t) g ≡ 0))
    go (inl l) = inl (l, mod_low pool t g l)
    go (inr l) = inr (l, digit_high t (pool % 2 ^ t) g (mod-lt pool (pow_pos t)) l)

module _ (kept pool : ℕ) (A : Apart kept pool) (t : ℕ) (h : t ≤ most_groups) where
  pub apart_up_to : Apart kept (pool % 2 ^ t)
  apart_up_to g = go (up_to_lem pool t g)
    where
      go : ((g < t) × (digit (pool % 2 ^ t) g ≡ digit pool g)) ⊎ ((t ≤ g) × (digit (pool % 2 ^ t) g ≡ 0)) → digit kept g + digit (pool % 2 ^ t) g ≤ 1
      go (inl w) = omega (arith, A g, w.1)
      go (inr w) = omega (arith, A g, w.1)

  pub or_up_to : (y : ℕ) → y ≡ pool % 2 ^ t → bit_or kept y ≡ up_to kept pool t
  or_up_to y e =
      ap (bit_or kept) e
      ∙ digits_same _ _ (λ g. omega (arith, digit_either kept (pool % 2 ^ t) g, digit_sum kept (pool % 2 ^ t) g apart_up_to, apart_up_to g))

  pub group_at : (g : ℕ) → chosen (up_to kept pool t) g ≡ leb (group_level kept pool g) t
  unfolding group_level
  group_at zero = chosen_core (up_to kept pool t) ∙ sym (leb-zero t)
  group_at (suc g) = chosen_group (up_to kept pool t) g ∙ ap (λ (d : ℕ). eqb d 1) (digit_sum kept (pool % 2 ^ t) g apart_up_to) ∙ go (digit_or kept g) (digit_or pool g) (up_to_lem pool t g)
    where
      sum : ℕ
      sum = digit kept g + digit (pool % 2 ^ t) g

      not_kept : digit kept g ≡ 0 → leb (cond (eqb (digit kept g) 1) 0 (cond (eqb (digit pool g) 1) (suc g) never)) t ≡ leb (cond (eqb (digit pool g) 1) (suc g) never) t
      not_kept k = ap (λ (b : Bool). leb (cond b 0 (cond (eqb (digit pool g) 1) (suc g) never)) t) (ne_eqb (digit kept g) 1 (λ e. omega arith))

      go : (digit kept g ≡ 0) ⊎ (digit kept g ≡ 1) → (digit pool g ≡ 0) ⊎ (digit pool g ≡ 1)
          → ((g < t) × (digit (pool % 2 ^ t) g ≡ digit pool g)) ⊎ ((t ≤ g) × (digit (pool % 2 ^ t) g ≡ 0))
          → eqb (digit kept g + digit (pool % 2 ^ t) g) 1 ≡ leb (cond (eqb (digit kept g) 1) 0 (cond (eqb (digit pool g) 1) (suc g) never)) t
      go (inr k) p u = eq-eqb sum 1 (omega (arith, k, A g, apart_up_to g)) ∙ sym (ap (λ (b : Bool). leb (cond b 0 (cond (eqb (digit pool g) 1) (suc g) never)) t) (eq-eqb (digit kept g) 1 k) ∙ leb-zero t)
      go (inl k) (inr p) (inl u) =
          eq-eqb sum 1 (omega (arith, k, p, u.1))
          ∙ sym (not_kept k ∙ ap (λ (b : Bool). leb (cond b (suc g) never) t) (eq-eqb (digit pool g) 1 p) ∙ le-leb (suc g) t (omega (arith, u.0)))
      go (inl k) (inr p) (inr u) =
          ne_eqb sum 1 (λ e. omega (arith, k, u.1))
          ∙ sym (not_kept k ∙ ap (λ (b : Bool). leb (cond b (suc g) never) t) (eq-eqb (digit pool g) 1 p) ∙ lt-leb (suc g) t (omega (arith, u.0)))
      go (inl k) (inl p) u =
          ne_eqb sum 1 (λ e. omega (arith, k, none u))
          ∙ sym (not_kept k ∙ ap (λ (b : Bool). leb (cond b (suc g) never) t) (ne_eqb (digit pool g) 1 (λ e. omega arith)) ∙ lt-leb never t (omega arith))
        where
          none : ((g < t) × (digit (pool % 2 ^ t) g ≡ digit pool g)) ⊎ ((t ≤ g) × (digit (pool % 2 ^ t) g ≡ 0)) → digit (pool % 2 ^ t) g ≡ 0
          none (inl w) = w.1 ∙ p
          none (inr w) = w.1

-- ---- the greatest and the least of two levels
leb_max : (m x t : ℕ) → leb (max m x) t ≡ (leb m t && leb x t)
leb_max m x t = go (leb m t) (leb x t) refl refl
  where
    go : (p q : Bool) → leb m t ≡ p → leb x t ≡ q → leb (max m x) t ≡ (p && q)
    go true true e f = le-leb (max m x) t (omega (arith, leb-true m t e, leb-true x t f))
    go true false e f = lt-leb (max m x) t (omega (arith, leb-false x t f))
    go false q e f = lt-leb (max m x) t (omega (arith, leb-false m t e))

leb_min : (m x t : ℕ) → leb (min m x) t ≡ (leb m t || leb x t)
leb_min m x t = go (leb m t) (leb x t) refl refl
  where
    go : (p q : Bool) → leb m t ≡ p → leb x t ≡ q → leb (min m x) t ≡ (p || q)
    go true q e f = le-leb (min m x) t (omega (arith, leb-true m t e))
    go false true e f = le-leb (min m x) t (omega (arith, leb-true x t f))
    go false false e f = lt-leb (min m x) t (omega (arith, leb-false m t e, leb-false x t f))

and_true : (a : Bool) → (a && true) ≡ a
and_true true = refl
and_true false = refl

and_more : (a b c : Bool) → ((a && b) && c) ≡ (a && (b && c))
and_more true b c = refl
and_more false b c = refl

pub every_greatest : (a : ℕ → Bool) (l : ℕ → ℕ) (t : ℕ) → ((w : ℕ) → a w ≡ leb (l w) t) → (m : ℕ) (ws : List ℕ) → leb (greatest l m ws) t ≡ (leb m t && every a ws)
unfolding greatest every
every_greatest a l t e m [] = sym (and_true (leb m t))
every_greatest a l t e m (w ∷ ws) =
    every_greatest a l t e (max m (l w)) ws ∙ ap (λ (b : Bool). b && every a ws) (leb_max m (l w) t ∙ ap (λ (b : Bool). leb m t && b) (sym (e w)))
    ∙ and_more (leb m t) (a w) (every a ws)

-- ---- marks
abbrev flag : ℕ → ℕ → ℕ
flag l t = cond (leb l t) 1 0

flag_is : (b : Bool) → eqb (cond b 1 0) 1 ≡ b
flag_is true = refl
flag_is false = refl

pub length_marks : (t : ℕ) (f : List ℕ) → length (marks_at t f) ≡ length f
unfolding marks_at
length_marks t [] = refl
length_marks t (l ∷ f) = ap suc (length_marks t f)

marks_set : (t : ℕ) (f : List ℕ) (h l : ℕ) → marks_at t (set f h l) ≡ set (marks_at t f) h (flag l t)
unfolding marks_at
marks_set t [] h l = refl
marks_set t (m ∷ f) zero l = refl
marks_set t (m ∷ f) (suc h) l = ap (λ (z : List ℕ). flag m t ∷ z) (marks_set t f h l)

pub default_any : (f : List ℕ) (i d e : ℕ) → i < length f → get_or f i d ≡ get_or f i e
default_any [] i d e l = absurd (omega arith)
default_any (m ∷ f) zero d e l = refl
default_any (m ∷ f) (suc i) d e l = default_any f i d e (omega arith)

pub high_at : (t : ℕ) (f : List ℕ) → t ≤ most_groups → ((i : ℕ) → i < length f → never ≤ get_or f i 0) → marks_at t f ≡ replicate (length f) 0
unfolding marks_at
high_at t [] h k = refl
high_at t (l ∷ f) h k =
    let o : never ≤ l = k 0 (omega arith) in
    ap (λ (b : Bool). cond b 1 0 ∷ marks_at t f) (lt-leb l t (omega arith)) ∙ ap (λ (z : List ℕ). 0 ∷ z) (high_at t f h (λ i j. k (suc i) (omega arith)))

module _ (t : ℕ) (h : t ≤ most_groups) where
  get_d_marks : (f : List ℕ) (i : ℕ) → get_or (marks_at t f) i 0 ≡ flag (get_or f i never) t
  unfolding marks_at
  get_d_marks [] i = sym (ap (λ (b : Bool). cond b 1 0) (lt-leb never t (omega arith)))
  get_d_marks (l ∷ f) zero = refl
  get_d_marks (l ∷ f) (suc i) = get_d_marks f i

  pub marked_at : (f : List ℕ) (v : ℕ) → marked (marks_at t f) v ≡ leb (level_of f v) t
  unfolding marked level_of
  marked_at f zero = sym (lt-leb never t (omega arith))
  marked_at f (suc i) = ap (λ (m : ℕ). eqb m 1) (get_d_marks f i) ∙ flag_is (leb (get_or f i never) t)

  same_both : {A : Type 0} (b : Bool) (x : A) → x ≡ cond b x x
  same_both true x = refl
  same_both false x = refl

  lower_at : (f : List ℕ) (k l : ℕ) → marks_at t (lower f k l) ≡ cond (leb l t) (put (marks_at t f) k) (marks_at t f)
  unfolding lower put
  lower_at f zero l = same_both (leb l t) (marks_at t f)
  lower_at f (suc k) l = marks_set t f k (min (get_or f k 0) l) ∙ go (leb l t) refl (lt_or_ge k (length f))
    where
      go : (b : Bool) → leb l t ≡ b → (k < length f) ⊎ (length f ≤ k) → set (marks_at t f) k (flag (min (get_or f k 0) l) t) ≡ cond b (set (marks_at t f) k 1) (marks_at t f)
      go true e w = ap (λ (b : Bool). set (marks_at t f) k (cond b 1 0)) (le-leb (min (get_or f k 0) l) t (omega (arith, leb-true l t e)))
      go false e (inr w) = set_out (marks_at t f) k _ (omega (arith, length_marks t f))
      go false e (inl w) =
          ap (λ (b : Bool). set (marks_at t f) k (cond b 1 0)) (leb_min (get_or f k 0) l t ∙ ap (λ (b : Bool). leb (get_or f k 0) t || b) e ∙ or_false (leb (get_or f k 0) t))
          ∙ ap (λ (m : ℕ). set (marks_at t f) k (flag m t)) (default_any f k 0 never w) ∙ ap (set (marks_at t f) k) (sym (get_d_marks f k)) ∙ set-get_or (marks_at t f) k 0
        where
          or_false : (b : Bool) → (b || false) ≡ b
          or_false true = refl
          or_false false = refl

-- ---- clauses
module _ (kept pool : ℕ) (A : Apart kept pool) (t : ℕ) (h : t ≤ most_groups) where
  pub clause_at : (f : List ℕ) (c : Clause) → leb (clause_level kept pool f c) t ≡ (in_force (up_to kept pool t) c && every (marked (marks_at t f)) c.body)
  clause_at f c =
      every_greatest (marked (marks_at t f)) (level_of f) t (marked_at t h f) (greatest (group_level kept pool) 0 c.groups) c.body
      ∙ ap (λ (b : Bool). b && every (marked (marks_at t f)) c.body)
      (every_greatest (chosen (up_to kept pool t)) (group_level kept pool) t (group_at kept pool A t h) 0 c.groups ∙ ap (λ (b : Bool). b && in_force (up_to kept pool t) c) (leb-zero t))

  pub turn_at : (c : Clause) (f : List ℕ) → marks_at t (turn kept pool c f) ≡ mark (up_to kept pool t) c (marks_at t f)
  turn_at c f = lower_at t h f c.head (clause_level kept pool f c) ∙ ap (λ (b : Bool). cond b (put (marks_at t f) c.head) (marks_at t f)) (clause_at f c)

  pub turns_at : (cs : List Clause) (f : List ℕ) → marks_at t (turns kept pool cs f) ≡ pass (up_to kept pool t) cs (marks_at t f)
  unfolding turns pass
  turns_at [] f = refl
  turns_at (c ∷ cs) f = turns_at cs (turn kept pool c f) ∙ ap (pass (up_to kept pool t) cs) (turn_at c f)

  -- a goal is broken where its level is at most the threshold
  broken_at : (f : List ℕ) (c : Clause) (m : ℕ) → leb (cond (eqb c.head 0) (min m (clause_level kept pool f c)) m) t ≡ (leb m t || broken (up_to kept pool t) (marks_at t f) c)
  broken_at f c m = go (eqb c.head 0) refl
    where
      go : (b : Bool) → eqb c.head 0 ≡ b → leb (cond b (min m (clause_level kept pool f c)) m) t ≡ (leb m t || broken (up_to kept pool t) (marks_at t f) c)
      go true e =
          leb_min m (clause_level kept pool f c) t
          ∙ ap (λ (b : Bool). leb m t || b) (clause_at f c ∙ sym (broken_is (up_to kept pool t) (marks_at t f) c ∙ ap (λ (b : Bool). b && in_force (up_to kept pool t) c && every (marked (marks_at t f)) c.body) e))
      go false e =
          none (leb m t)
          ∙ ap (λ (b : Bool). leb m t || b) (sym (broken_is (up_to kept pool t) (marks_at t f) c ∙ ap (λ (b : Bool). b && in_force (up_to kept pool t) c && every (marked (marks_at t f)) c.body) e))
        where
          none : (b : Bool) → b ≡ (b || false)
          none true = refl
          none false = refl

  pub goal_at : (f : List ℕ) (m k : ℕ) (cs : List Clause) → 0 < k → leb (goal_level kept pool f m cs) t ≡ (leb m t || not (eqb (lowest (up_to kept pool t) (marks_at t f) k cs) 0))
  unfolding goal_level
  goal_at f m k [] l = none (leb m t) ∙ ap (λ (n : ℕ). leb m t || not (eqb n 0)) (sym (lowest_empty (up_to kept pool t) (marks_at t f) k))
    where
      none : (b : Bool) → b ≡ (b || not (eqb 0 0))
      none true = refl
      none false = refl
  goal_at f m k (c ∷ cs) l =
      goal_at f (cond (eqb c.head 0) (min m (clause_level kept pool f c)) m) (k + 1) cs (omega arith)
      ∙ ap (λ (b : Bool). b || not (eqb (lowest (up_to kept pool t) (marks_at t f) (k + 1) cs) 0)) (broken_at f c m)
      ∙ go (lowest (up_to kept pool t) (marks_at t f) (k + 1) cs) (leb m t) (broken (up_to kept pool t) (marks_at t f) c)
      ∙ ap (λ (n : ℕ). leb m t || not (eqb n 0)) (sym (lowest_first (up_to kept pool t) (marks_at t f) k c cs))
    where
      go : (n : ℕ) (b d : Bool) → ((b || d) || not (eqb n 0)) ≡ (b || not (eqb (cond d k n) 0))
      go n true d = refl
      go n false true = sym (ap not (ne_eqb k 0 (λ e. omega arith)))
      go n false false = refl

pub goal_le : (kept pool : ℕ) (f : List ℕ) (m : ℕ) (cs : List Clause) → goal_level kept pool f m cs ≤ m
unfolding goal_level
goal_le kept pool f m [] = omega arith
goal_le kept pool f m (c ∷ cs) = go (eqb c.head 0) (goal_le kept pool f (cond (eqb c.head 0) (min m (clause_level kept pool f c)) m) cs)
  where
    go : (b : Bool) {r : ℕ} → r ≤ cond b (min m (clause_level kept pool f c)) m → r ≤ m
    go true l = omega arith
    go false l = l
