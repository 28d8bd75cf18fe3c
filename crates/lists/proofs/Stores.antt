-- Stores in the working space, and what they leave as it was.
--   beside_on                     places and the words from 8,192 on, after one change and another
--   aside_none, aside_on          no store, and stores after a change
--   aside_set, aside_part         one more store among the lists, and a whole part of them that is written
--   changes_front                 the front alone is changed
--   front_long, front_within      the front holds one word a variable, and a body's variables are within
--   room_on                       a space of the same length
--   layout_room                   a space that is long enough for a layout
--   aside_as                      the same change by equal numbers of variables and clauses
-- Assumes nothing.
use Prim.Native.Nat.{ℕ, ◌+◌, ◌-◌, ◌≤◌, ◌<◌}
use mathlib.Core.Path.{◌≡◌, refl, sym, ap, ◌∙◌, subst}
use mathlib.Core.Bool.{true}
use mathlib.Core.List.{List, ◌++◌}
use native.Mathlib.Omega.{arith}
use lib.ListN.{length, get_or, take, drop, set, length-append, length-drop, length-set}
use lib.Seq.{take_at, take-set-le, drop-set-lt, drop-drop, drop-append-add, get_or-drop, get_or-take, get_or-append-add, get_or-set_other, length-take-le}
use borrow.Rule.Slice.PartMut.{mid_of, put_mid, same_len_mid}
use Rattle.std.proofs.lemmas.Slice.{take-put_mid_below, drop-put_mid}
use Rattle.field.specs.Words.{within}
use Rattle.lists.specs.Space.{Room, Beside, Changes, Aside}
use Rattle.lists.specs.declared.Layout.{Layout}

module _ (v m : ℕ) where
  pub beside_on : (w₀ w w' : List ℕ) → Beside v m w₀ w → Beside v m w w' → Beside v m w₀ w'
  beside_on w₀ w w' B C = record { places = λ i h. C.places i h ∙ B.places i h; rest = C.rest ∙ B.rest; long = C.long ∙ B.long }

  pub aside_none : (w : List ℕ) → Aside v m w w
  aside_none w = record { levels = refl; beside = record { places = λ i h. refl; rest = refl; long = refl } }

  pub aside_on : (g : List ℕ → List ℕ) (w₀ w w' : List ℕ) → Changes g v m w₀ w → Aside v m w w' → Changes g v m w₀ w'
  aside_on g w₀ w w' C A = record { levels = A.levels ∙ C.levels; beside = beside_on w₀ w w' C.beside A.beside }

  pub aside_set : (w₀ w : List ℕ) (k a : ℕ) → v + m ≤ k → k < 8192 → Aside v m w₀ w → Aside v m w₀ (set w k a)
  aside_set w₀ w k a low high A =
      aside_on (λ f. f) w₀ w (set w k a) A
      (record {
        levels = take-set-le v w k a (omega arith);
        beside = record {
          places = λ i h. get_or-set_other w k (v + i) a 0 (λ e. omega arith);
          rest = drop-set-lt 8192 w k a high;
          long = length-set w k a;
        };
      })

  -- ys is what the k words from a on hold then
  pub aside_part : (w : List ℕ) (a k : ℕ) (ys : List ℕ) → v + m ≤ a → a + k ≤ 8192 → 8192 ≤ length w → length ys ≡ length (mid_of a k w) → Aside v m w (put_mid a k w ys)
  aside_part w a k ys low high room same =
      let inside : a ≤ length w = omega arith in
      let n : length ys ≡ k = same ∙ length-take-le k (drop a w) (omega (arith, length-drop a w)) in
      let before : take a (put_mid a k w ys) ≡ take a w = take-put_mid_below a k w ys a (omega arith) inside in
      record {
        levels = take-put_mid_below a k w ys v (omega arith) inside;
        beside = record {
          places = λ i h. sym (get_or-take a (put_mid a k w ys) (v + i) 0 (omega arith)) ∙ ap (λ (f : List ℕ). get_or f (v + i) 0) before ∙ get_or-take a w (v + i) 0 (omega arith);
          rest = drop-put_mid a k w ys 8192 high inside n;
          long = same_len_mid a k w ys same;
        };
      }

  pub changes_front : (g : List ℕ → List ℕ) (w f : List ℕ) → Room v m w → f ≡ g (take v w) → length (g (take v w)) ≡ length (take v w) → Changes g v m w (f ++ drop v w)
  changes_front g w f R e same =
      let n : length f ≡ v = ap length e ∙ same ∙ length-take-le v w (omega (arith, R.small.variables, R.long)) in
      let a : 8192 ≡ length f + (8192 - v) = omega (arith, R.small.variables, n) in
      let b : v + (8192 - v) ≡ 8192 = omega (arith, R.small.variables) in
      record {
        levels = take_at f (drop v w) v n ∙ e;
        beside = record {
          places = λ i h. ap (λ (k : ℕ). get_or (f ++ drop v w) (k + i) 0) (sym n) ∙ get_or-append-add f (drop v w) i 0 ∙ get_or-drop v w i 0;
          rest = ap (λ (k : ℕ). drop k (f ++ drop v w)) a ∙ drop-append-add f (drop v w) (8192 - v) ∙ drop-drop (8192 - v) v w ∙ ap (λ (k : ℕ). drop k w) b;
          long = length-append f (drop v w) ∙ omega (arith, n, length-drop v w, R.small.variables, R.long);
        };
      }

  pub front_long : (w : List ℕ) → Room v m w → length (take v w) ≡ v
  front_long w R = length-take-le v w (omega (arith, R.small.variables, R.long))

  pub front_within : (w ws : List ℕ) → Room v m w → within 1 v ws ≡ true → within 1 (length (take v w)) ws ≡ true
  front_within w ws R h = rw (front_long w R) h

  pub room_on : (w w' : List ℕ) → Room v m w → length w' ≡ length w → Room v m w'
  room_on w w' R e = record { small = R.small; long = omega (arith, R.long, e) }

pub layout_room : (l : Layout) (w : List ℕ) → 8192 ≤ length w → Room l.variables l.clauses w
layout_room l w h = record { small = record { variables = l.few_variables; clauses = l.few_clauses }; long = h }

pub aside_as : (v v' m m' : ℕ) (w w' : List ℕ) → v ≡ v' → m ≡ m' → Aside v m w w' → Aside v' m' w w'
aside_as v v' m m' w w' e d A = subst (λ (k : ℕ). Aside k m' w w') e (subst (λ (k : ℕ). Aside v k w w') d A)
