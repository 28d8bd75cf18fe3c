-- Whether a clause lets levels stand below a bound m, with what is left aside taken for granted.
--   granted_below, granted_above      what is granted to a level: itself, and 0 above never
--   granted_level        the granted level of a variable
--   held_any             a body reaches the bound if one of its variables does
--   stands_out, stands_below, stands_held      whether a clause stands: it is not in force, by its head's level, and else by its body
--   head_none, head_above      no head, and a head with a level that is not below the bound
-- Assumes nothing.
use Prim.Native.Nat.{ℕ, zero, suc, ◌-◌, ◌≤◌, ◌<◌, max}
use mathlib.Core.Path.{◌≡◌, refl, sym, ap, ◌∙◌}
use mathlib.Core.List.{List, [], ◌∷◌}
use mathlib.Core.Bool.{Bool, true, false, cond, not, ◌||◌}
use native.Mathlib.Omega.{arith}
use lib.ListN.{length, get_or}
use lib.Dec.{leb, ltb}
use borrow.Author.Tests.{le-leb, lt-leb, leb-true, leb-false, lt-ltb, le-ltb}
use Rattle.std.specs.List.{list_any}
use Rattle.field.specs.Words.{within}
use Rattle.field.proofs.Words.{within_cons}
use Rattle.meaning.specs.Book.{Clause}
use Rattle.meaning.specs.Consistent.{in_force}
use Rattle.levels.specs.Levels.{never, level_of, greatest, below, stands, granted_to, granted}
use Rattle.levels.proofs.Thresholds.{default_any}
use Rattle.levels.proofs.Turns.{greatest_none, greatest_next, greatest_from}

-- ---- one level
pub granted_below : (l : ℕ) → l ≤ never → l ≡ granted_to l
granted_below l h = sym (ap (λ (b : Bool). cond b l 0) (le-leb l never h))

pub granted_above : (l : ℕ) → never < l → 0 ≡ granted_to l
granted_above l h = sym (ap (λ (b : Bool). cond b l 0) (lt-leb l never h))

granted_at : (f : List ℕ) (i : ℕ) → get_or (granted f) i never ≡ granted_to (get_or f i never)
unfolding granted
granted_at [] i = granted_below never (omega arith)
granted_at (l ∷ f) zero = refl
granted_at (l ∷ f) (suc i) = granted_at f i

pub granted_level : (f : List ℕ) (w : ℕ) → 1 ≤ w → w ≤ length f → granted_to (get_or f (w - 1) 0) ≡ level_of (granted f) w
unfolding level_of
granted_level f zero h k = absurd (omega arith)
granted_level f (suc i) h k =
    let e : suc i - 1 ≡ i = omega arith in
    ap (λ (j : ℕ). granted_to (get_or f j 0)) e ∙ ap granted_to (default_any f i 0 never (omega arith)) ∙ sym (granted_at f i)

-- ---- a body
-- of two levels one reaches the bound
leb_either : (m a b : ℕ) → leb m (max a b) ≡ (leb m a || leb m b)
leb_either m a b = go (leb m a) (leb m b) refl refl
  where
    go : (p q : Bool) → leb m a ≡ p → leb m b ≡ q → leb m (max a b) ≡ (p || q)
    go true q e f = le-leb m (max a b) (omega (arith, leb-true m a e))
    go false true e f = le-leb m (max a b) (omega (arith, leb-true m b f))
    go false false e f = lt-leb m (max a b) (omega (arith, leb-false m a e, leb-false m b f))

pub held_any : (m : ℕ) (f ws : List ℕ) → 1 ≤ m → within 1 (length f) ws ≡ true
    → list_any (λ w. leb m (granted_to (get_or f (w - 1) 0))) ws ≡ leb m (greatest (level_of (granted f)) 0 ws)
held_any m f [] o h = sym (lt-leb m (greatest (level_of (granted f)) 0 []) (omega (arith, greatest_none (level_of (granted f)) 0 [] refl)))
held_any m f (w ∷ ws) o h =
    let l = level_of (granted f) in
    let k = within_cons 1 (length f) w ws h in
    ap (λ b. leb m (granted_to (get_or f (w - 1) 0)) || b) (held_any m f ws o k.2) ∙ ap (λ n. leb m n || leb m (greatest l 0 ws)) (granted_level f w k.0 k.1)
    ∙ sym (leb_either m (l w) (greatest l 0 ws))
    ∙ ap (leb m) (sym (greatest_next (w ∷ ws) w ws refl l 0 (l w) (omega arith) ∙ greatest_from l (l w) ws))

-- ---- a clause
or_true : (b : Bool) → true ≡ (b || true)
or_true true = refl
or_true false = refl

pub head_none : (m : ℕ) (f : List ℕ) (h : ℕ) → h ≤ 0 → below m f h ≡ false
unfolding below
head_none m f zero e = refl
head_none m f (suc h) e = absurd (omega arith)

some_head : (m : ℕ) (f : List ℕ) (h : ℕ) → 0 < h → h ≤ length f → below m (granted f) h ≡ ltb (granted_to (get_or f (h - 1) 0)) m
unfolding below level_of
some_head m f zero o l = absurd (omega arith)
some_head m f (suc h) o l = ap (λ (k : ℕ). ltb k m) (sym (granted_level f (suc h) (omega arith) l))

pub head_above : (m : ℕ) (f : List ℕ) (h : ℕ) → 0 < h → h ≤ length f → m ≤ granted_to (get_or f (h - 1) 0) → below m (granted f) h ≡ false
head_above m f h o l k = some_head m f h o l ∙ le-ltb (granted_to (get_or f (h - 1) 0)) m k

module _ (x m : ℕ) (f : List ℕ) (c : Clause) where
  pub stands_out : in_force x c ≡ false → true ≡ stands x m f c
  stands_out e = sym (ap (λ (i : Bool). not i || (below m f c.head || leb m (greatest (level_of f) 0 c.body))) e)

  pub stands_below : 0 < c.head → c.head ≤ length f → granted_to (get_or f (c.head - 1) 0) < m → true ≡ stands x m (granted f) c
  stands_below o l k =
      or_true (not (in_force x c))
      ∙ sym (ap (λ (b : Bool). not (in_force x c) || (b || leb m (greatest (level_of (granted f)) 0 c.body))) (some_head m f c.head o l ∙ lt-ltb (granted_to (get_or f (c.head - 1) 0)) m k))

  pub stands_held : in_force x c ≡ true → below m f c.head ≡ false → leb m (greatest (level_of f) 0 c.body) ≡ stands x m f c
  stands_held i e =
      sym (ap (λ (a : Bool). not a || (below m f c.head || leb m (greatest (level_of f) 0 c.body))) i ∙ ap (λ (b : Bool). b || leb m (greatest (level_of f) 0 c.body)) e)
