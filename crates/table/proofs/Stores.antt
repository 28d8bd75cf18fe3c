-- Stores in the working space of a book, and what they leave as it was.
--   fresh_none, fresh_next, fresh_all      variables without a level: none of them, one more, all
--   kept_none, kept_on            no step, and steps after steps
--   sized                         a book has the numbers that it tells
--   small, room                   an accepted book is no larger than the space
--   front_levels, body_within     levels and bodies, by the number of variables that the code has
--   kept_by                       a step, by the levels that it leaves
--   kept_aside                    stores among the lists are a step
--   front_put                     other words in the front, one a variable
--   kept_front                    ... are a step where they are levels of which none is too low
--   kept_laid                     the steps may begin where no variable has a level and the table is laid
--   kept_after                    steps after stores among the lists
--   laid, laid_on                 the table of a space that is ready, and after stores among the lists
-- Assumes nothing.
use Prim.Native.Nat.{ℕ, ◌+◌, ◌≤◌, ◌<◌}
use mathlib.Core.Path.{◌≡◌, refl, sym, ap, ◌∙◌, subst}
use mathlib.Core.Bool.{true}
use mathlib.Core.List.{List, ◌++◌}
use native.Mathlib.Omega.{arith}
use native.Mathlib.Decide.{dec_lt}
use lib.ListN.{length, get_or, take, drop, set, length-set}
use lib.Seq.{take-set-lt, drop-set-lt, get_or-set_same, get_or-set_other, length-take-le}
use Rattle.field.specs.Words.{within}
use Rattle.book.specs.Walk.{book_of}
use Rattle.book.specs.declared.accepted.Book.{Book}
use Rattle.book.proofs.Walk.{well_formed, is_book}
use Rattle.levels.specs.Levels.{never, Settling}
use Rattle.levels.proofs.Walks.{high_start, settling_long}
use Rattle.lists.specs.Space.{Small, Room, Beside, Changes, Aside}
use Rattle.lists.proofs.Stores.{beside_on, changes_front, front_long}
use Rattle.table.specs.Table.{Sized, Places, Prepared, Kept, Fresh, Tabled, Laid}

-- ---- variables without a level
module _ (v m : ℕ) where
  pub fresh_none : (w : List ℕ) → Fresh 0 v m w w
  fresh_none w = record { levels = λ i h. absurd (omega arith); beside = record { places = λ i h. refl; rest = refl; long = refl } }

  pub fresh_next : (w₀ w : List ℕ) (n a : ℕ) → Room v m w₀ → n < v → never ≤ a → Fresh n v m w₀ w → Fresh (n + 1) v m w₀ (set w n a)
  fresh_next w₀ w n a R l high F =
      let front : take v (set w n a) ≡ set (take v w) n a = take-set-lt v w n a l in
      let long : n < length (take v w) = omega (arith, length-take-le v w (omega (arith, R.small.variables, R.long, F.beside.long))) in
      record {
        levels = λ i h. omega (arith, ap (λ (z : List ℕ). get_or z i 0) front, go i h long (dec_lt i n));
        beside = beside_on v m w₀ w (set w n a) F.beside
            (record {
              places = λ i h. get_or-set_other w n (v + i) a 0 (λ e. omega arith);
              rest = drop-set-lt 8192 w n a (omega (arith, R.small.variables));
              long = length-set w n a;
            });
      }
    where
      go : (i : ℕ) → i < n + 1 → n < length (take v w) → Dec (i < n) → never ≤ get_or (set (take v w) n a) i 0
      go i h long (yes k) = omega (arith, F.levels i k, get_or-set_other (take v w) n i a 0 (λ e. omega arith))
      go i h long (no k) = let e : i ≡ n = omega arith in rw e (omega (arith, get_or-set_same (take v w) n a 0 long))

  pub fresh_all : (w₀ w : List ℕ) (n : ℕ) → v ≤ n → Fresh n v m w₀ w → Fresh v v m w₀ w
  fresh_all w₀ w n l F = record { levels = λ i h. F.levels i (omega arith); beside = F.beside }

-- ---- steps
module _ (s : List ℕ) (kept pool : ℕ) where
  pub kept_none : (w : List ℕ) → Prepared s kept pool w → Kept s kept pool w w
  kept_none w R = record { ready = R; rest = refl; long = refl }

  pub kept_on : (w₀ w w' : List ℕ) → Kept s kept pool w₀ w → Kept s kept pool w w' → Kept s kept pool w₀ w'
  kept_on w₀ w w' K L = record { ready = L.ready; rest = L.rest ∙ K.rest; long = L.long ∙ K.long }

pub sized : (b : Book) → Sized b.bytes.now b.variables b.clauses
sized b = record { book = is_book b.bytes.now b.accepted; variables = b.variables_are; clauses = b.clauses_are }

module _ (s : List ℕ) (v m : ℕ) (S : Sized s v m) where
  pub small : Small v m
  small = let good = well_formed s S.book in record { variables = omega (arith, S.variables, good.variables); clauses = omega (arith, S.clauses, good.clauses) }

  pub room : (w : List ℕ) → 8192 ≤ length w → Room v m w
  room w l = record { small = small; long = l }

  pub front_levels : (kept pool : ℕ) (w : List ℕ) → Prepared s kept pool w → Settling (book_of s) kept pool (take v w)
  front_levels kept pool w R = subst (λ (k : ℕ). Settling (book_of s) kept pool (take k w)) (sym S.variables) R.levels

  pub body_within : (ws : List ℕ) → within 1 (book_of s).variables ws ≡ true → within 1 v ws ≡ true
  body_within ws h = subst (λ (k : ℕ). within 1 k ws ≡ true) (sym S.variables) h

  beside_book : (w w' : List ℕ) → Beside v m w w' → Beside (book_of s).variables (length (book_of s).clauses) w w'
  beside_book w w' B = subst (λ (k : ℕ). Beside k (length (book_of s).clauses) w w') S.variables (subst (λ (k : ℕ). Beside v k w w') S.clauses B)

  module _ (kept pool : ℕ) (w w' : List ℕ) (R : Prepared s kept pool w) where
    -- the groups that are kept and in the pool may be others afterwards
    pub kept_by : (kept' pool' : ℕ) → Beside v m w w' → Settling (book_of s) kept' pool' (take v w') → Kept s kept' pool' w w'
    kept_by kept' pool' B L =
        record {
          ready = record {
            room = omega (arith, R.room, B.long);
            places = λ c h. rw ((beside_book w w' B).places c h) (R.places c h);
            levels = subst (λ (k : ℕ). Settling (book_of s) kept' pool' (take k w')) S.variables L;
          };
          rest = B.rest;
          long = B.long;
        }

    pub kept_aside : Aside v m w w' → Kept s kept pool w w'
    kept_aside A = kept_by kept pool A.beside (subst (Settling (book_of s) kept pool) (sym A.levels) (front_levels kept pool w R))

  -- ---- the front
  pub front_put : (w f : List ℕ) → 8192 ≤ length w → length f ≡ (book_of s).variables → Changes (λ g. f) v m w (f ++ drop v w)
  front_put w f l n = let r = room w l in changes_front v m (λ g. f) w f r refl (n ∙ sym S.variables ∙ sym (front_long v m w r))

  pub kept_front : (kept pool : ℕ) (w : List ℕ) → Prepared s kept pool w → (f : List ℕ) → Settling (book_of s) kept pool f → Kept s kept pool w (f ++ drop v w)
  kept_front kept pool w R f L =
      let C = front_put w f R.room (settling_long (book_of s) kept pool f L) in
      kept_by kept pool w (f ++ drop v w) R kept pool C.beside (subst (Settling (book_of s) kept pool) (sym C.levels) L)

  -- ---- the beginning
  pub kept_laid : (kept pool : ℕ) (w₀ w₁ w w' : List ℕ) (v' m' : ℕ) → v' ≡ v → Aside v' m' w₀ w₁ → 8192 ≤ length w₁ → Fresh v' v' m' w₁ w → Tabled s v m w w'
      → Kept s kept pool w₀ w'
  kept_laid kept pool w₀ w₁ w w' v' m' e A l F' T =
      let F = subst (λ (k : ℕ). Fresh k k m' w₁ w) e F' in
      let n : length (take v w) ≡ v = front_long v m w (room w (omega (arith, F.beside.long))) in
      record {
        ready = record {
          room = omega (arith, T.long, F.beside.long);
          places = subst (λ (k : ℕ). Places s k (length (book_of s).clauses) w') S.variables (subst (λ (k : ℕ). Places s v k w') S.clauses T.places);
          levels = subst (λ (k : ℕ). Settling (book_of s) kept pool (take k w')) S.variables
              (subst (Settling (book_of s) kept pool) (sym T.levels) (high_start (book_of s) kept pool (take v w) (n ∙ S.variables) (λ i h. F.levels i (omega (arith, n)))));
        };
        rest = T.rest ∙ F.beside.rest ∙ A.beside.rest;
        long = T.long ∙ F.beside.long ∙ A.beside.long;
      }

  pub kept_after : (kept pool : ℕ) (w₀ w w' : List ℕ) → Aside v m w₀ w → Kept s kept pool w w' → Kept s kept pool w₀ w'
  kept_after kept pool w₀ w w' A K = record { ready = K.ready; rest = K.rest ∙ A.beside.rest; long = K.long ∙ A.beside.long }

  -- ---- the table alone
  pub laid : (kept pool : ℕ) (w : List ℕ) → Prepared s kept pool w → Laid s v m w
  laid kept pool w R =
      record {
        size = S;
        room = R.room;
        places = subst (λ (k : ℕ). Places s k m w) (sym S.variables) (subst (λ (k : ℕ). Places s (book_of s).variables k w) (sym S.clauses) R.places);
      }

pub laid_on : (s : List ℕ) (v m : ℕ) (w w' : List ℕ) → Laid s v m w → Aside v m w w' → Laid s v m w'
laid_on s v m w w' L A =
    record { size = L.size; room = omega (arith, L.room, A.beside.long); places = λ c h. rw (A.beside.places c h) (L.places c h) }
