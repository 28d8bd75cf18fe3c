-- Where a number goes among rising ones, and how it is put there.
--   place_none, place_skips, place_found, rising_skips      one turn of the search from the back
--   place_back                the search from the back
--   place_in                  the place is there
--   insert_there, insert_put  putting in, by the number at that place
--   inserted_full, inserted_as      ... unless there are enough
--   Inserted l count n r l'   what putting n into the first `count` of the words l answers and leaves
--   inserts_full, inserts_there, inserts_put      the three ways that it goes
--   place_inside              the place is at most their end
--   length_put                putting in makes one more
--   Shifted old count j       the words from j on, up to the first `count`, stand one place further
--   shift_start, shift_next, shift_put      the shift from the back, word by word: its start, its next turn, and n put where it made room
--   shift_end                 the shift, and n put where it made room
-- Assumes nothing.
use Prim.Native.Nat.{ℕ, suc, ◌+◌, ◌-◌, ◌≤◌, ◌<◌}
use mathlib.Core.Path.{◌≡◌, refl, sym, ap, ◌∙◌, subst}
use mathlib.Core.List.{List, [], ◌∷◌, ◌++◌, append_assoc, reverse}
use mathlib.Core.Bool.{Bool, true, false, cond}
use native.Mathlib.Numerals.{add-one}
use lib.Dec.{leb}
use Rattle.std.specs.List.{prefix_len, take_while, copy_within}
use Rattle.std.proofs.lemmas.List.{reverse-append, reverse-reverse, length-reverse, drop-take}
use Rattle.std.proofs.lemmas.List.Folds.{length-prefix_len}
use native.Mathlib.Omega.{arith}
use lib.ListN.{length, get_or, take, drop, set, take-append-drop, length-append, length-drop, drop_of_length-le, get_or-append}
use lib.Seq.{take-suc, drop-cons, set_at, length-take-le, get_or-take, take-take}
use borrow.Author.Tests.{lt-ltb, le-ltb, eq-eqb, ne_eqb, leb-true, leb-false}
use Rattle.answer.specs.Space.{over}
use Rattle.field.specs.Words.{rising}
use Rattle.field.proofs.Words.{rising_cons, cons_rising}
use Rattle.text.specs.Taking.{insert}
use Rattle.text.proofs.Gathering.{insert_by}
use Rattle.clause_line.specs.Steps.{place_of, put_in, enough, inserted_of}

-- ---- the search
place_snoc : (xs : List ℕ) (x n : ℕ) → n ≤ x → place_of (xs ++ (x ∷ [])) n ≡ place_of xs n
unfolding place_of
place_snoc [] x n h = simp (le-ltb x n h)
place_snoc (w ∷ xs) x n h = simp (place_snoc xs x n h)

-- the last of rising numbers is the greatest
last_above : (b : ℕ) (xs : List ℕ) (x : ℕ) → rising b (xs ++ (x ∷ [])) ≡ true → b < x
last_above b [] x e = (rising_cons b x [] e).0
last_above b (w ∷ xs) x e = let r = rising_cons b w (xs ++ (x ∷ [])) e in omega (arith, r.0, last_above w xs x r.1)

place_all : (b : ℕ) (xs : List ℕ) (x n : ℕ) → rising b (xs ++ (x ∷ [])) ≡ true → x < n → place_of (xs ++ (x ∷ [])) n ≡ suc (length xs)
unfolding place_of
place_all b [] x n e h = simp (lt-ltb x n h)
place_all b (w ∷ xs) x n e h =
    let r = rising_cons b w (xs ++ (x ∷ [])) e in
    let l : w < n = omega (arith, last_above w xs x r.1) in
    simp (lt-ltb w n l, place_all w xs x n r.1 h)

rising_front : (b : ℕ) (xs : List ℕ) (x : ℕ) → rising b (xs ++ (x ∷ [])) ≡ true → rising b xs ≡ true
unfolding rising
rising_front b [] x e = refl
rising_front b (w ∷ xs) x e = let r = rising_cons b w (xs ++ (x ∷ [])) e in cons_rising b w xs r.0 (rising_front w xs x r.1)

pub place_none : (n : ℕ) (l : List ℕ) (k : ℕ) → k ≤ 0 → place_of (take k l) n ≡ 0
unfolding place_of
place_none n l k h = let e : k ≡ 0 = omega arith in ap (λ (j : ℕ). place_of (take j l) n) e

-- the last of the first k words
module _ (l : List ℕ) (k n : ℕ) (some : 0 < k) (inside : k ≤ length l) where
  last : take k l ≡ take (k - 1) l ++ (get_or l (k - 1) 0 ∷ [])
  last = let e : k ≡ suc (k - 1) = omega arith in ap (λ (j : ℕ). take j l) e ∙ take-suc l (k - 1) 0 (omega arith)

  pub place_skips : n ≤ get_or l (k - 1) 0 → place_of (take k l) n ≡ place_of (take (k - 1) l) n
  place_skips h = ap (λ (xs : List ℕ). place_of xs n) last ∙ place_snoc (take (k - 1) l) (get_or l (k - 1) 0) n h

  pub place_found : rising 0 (take k l) ≡ true → get_or l (k - 1) 0 < n → place_of (take k l) n ≡ k
  place_found e h =
      let r : rising 0 (take (k - 1) l ++ (get_or l (k - 1) 0 ∷ [])) ≡ true = rw last at e in
      let m : length (take (k - 1) l) ≡ k - 1 = length-take-le (k - 1) l (omega arith) in
      ap (λ (xs : List ℕ). place_of xs n) last ∙ place_all 0 (take (k - 1) l) (get_or l (k - 1) 0) n r h ∙ omega (arith, m)

  pub rising_skips : rising 0 (take k l) ≡ true → rising 0 (take (k - 1) l) ≡ true
  rising_skips e = rising_front 0 (take (k - 1) l) (get_or l (k - 1) 0) (rw last at e)

-- the search from the back, over the words turned round
module _ (n : ℕ) where
  abbrev above : List ℕ → ℕ
  above rs = prefix_len (λ w. leb n w) rs

  place_turned : (rs : List ℕ) → rising 0 (reverse rs) ≡ true → place_of (reverse rs) n ≡ length rs - above rs
  unfolding place_of
  place_turned [] e = refl
  place_turned (r ∷ rs) e =
      let d = reverse-append (r ∷ []) rs in
      let f : rising 0 (reverse rs ++ (r ∷ [])) ≡ true = ap (rising 0) (sym d) ∙ e in
      ap (λ (xs : List ℕ). place_of xs n) d ∙ go (leb n r) refl f (place_turned rs (rising_front 0 (reverse rs) r f))
    where
      go : (b : Bool) → leb n r ≡ b → rising 0 (reverse rs ++ (r ∷ [])) ≡ true → place_of (reverse rs) n ≡ length rs - above rs
          → place_of (reverse rs ++ (r ∷ [])) n ≡ suc (length rs) - cond b (1 + above rs) 0
      go true h f again = omega (arith, place_snoc (reverse rs) r n (leb-true n r h), again)
      go false h f again = omega (arith, place_all 0 (reverse rs) r n f (leb-false n r h), length-reverse rs)

  pub place_back : (ws : List ℕ) → rising 0 ws ≡ true → length ws - length (take_while (λ w. leb n w) (reverse ws)) ≡ place_of ws n
  place_back ws e =
      let d = reverse-reverse ws in
      let f : rising 0 (reverse (reverse ws)) ≡ true = ap (rising 0) d ∙ e in
      let t = place_turned (reverse ws) f in
      omega (arith, ap (λ (xs : List ℕ). place_of xs n) d, t, length-reverse ws, length-prefix_len (λ w. leb n w) (reverse ws))

place_here : (w : ℕ) (ws : List ℕ) (n : ℕ) → n ≤ w → place_of (w ∷ ws) n ≡ 0
unfolding place_of
place_here w ws n h = simp (le-ltb w n h)

place_later : (w : ℕ) (ws : List ℕ) (n : ℕ) → w < n → place_of (w ∷ ws) n ≡ suc (place_of ws n)
unfolding place_of
place_later w ws n h = simp (lt-ltb w n h)

pub place_in : (n : ℕ) (ws : List ℕ) → place_of ws n ≤ length ws
unfolding place_of
place_in n =
    insert_by n (λ us r. place_of us n ≤ length us) (omega arith) (λ w us m. omega (arith, place_here w us n (omega arith))) (λ w us m. omega (arith, place_here w us n (omega arith)))
    (λ w us m ih. omega (arith, place_later w us n m))

-- ---- putting in, by the place
pub insert_there : (n : ℕ) (ws : List ℕ) → place_of ws n < length ws → get_or ws (place_of ws n) 0 ≡ n → insert n ws ≡ ws
insert_there n =
    insert_by n (λ us r. place_of us n < length us → get_or us (place_of us n) 0 ≡ n → r ≡ us)
    (λ l e. absurd (omega arith))
    (λ w us m l e. absurd (let d : w ≡ n = rw (place_here w us n (omega arith)) at e in omega arith))
    (λ w us m l e. refl)
    (λ w us m ih l e. ap (λ (xs : List ℕ). w ∷ xs) (ih (let d = place_later w us n m in omega arith) (rw (place_later w us n m) at e)))

pub insert_put : (n : ℕ) (ws : List ℕ) → (place_of ws n < length ws → get_or ws (place_of ws n) 0 ≡ n → ⊥) → insert n ws ≡ put_in (place_of ws n) n ws
unfolding place_of
insert_put n =
    insert_by n (λ us r. (place_of us n < length us → get_or us (place_of us n) 0 ≡ n → ⊥) → r ≡ put_in (place_of us n) n us)
    (λ h. refl)
    (λ w us m h. ap (λ (k : ℕ). put_in k n (w ∷ us)) (sym (place_here w us n (omega arith))))
    (λ w us m h. let z = place_here w us n (omega arith) in absurd (h (omega arith) (ap (λ (k : ℕ). get_or (w ∷ us) k 0) z ∙ sym m)))
    (λ w us m ih h.
    let z = place_later w us n m in
    ap (λ (xs : List ℕ). w ∷ xs) (ih (λ l e. h (omega arith) (ap (λ (k : ℕ). get_or (w ∷ us) k 0) z ∙ e))) ∙ ap (λ (k : ℕ). put_in k n (w ∷ us)) (sym z))

pub inserted_full : (ws : List ℕ) (n : ℕ) → length ws ≡ enough → inserted_of ws n ≡ ws
unfolding inserted_of
inserted_full ws n e = simp (eq-eqb (length ws) enough e)

pub inserted_as : (ws : List ℕ) (n : ℕ) → (length ws ≡ enough → ⊥) → inserted_of ws n ≡ insert n ws
unfolding inserted_of
inserted_as ws n h = simp (ne_eqb (length ws) enough h)

-- what putting n into the first `count` of some words answers and leaves
abbrev pub Inserted : List ℕ → ℕ → ℕ → ℕ → List ℕ → Type 0
Inserted l count n r l' = (r ≡ length (inserted_of (take count l) n)) × (l' ≡ over (inserted_of (take count l) n) l)

pub length_put : (k n : ℕ) (ws : List ℕ) → k ≤ length ws → length (put_in k n ws) ≡ suc (length ws)
length_put k n ws h = omega (arith, length-append (take k ws) (n ∷ drop k ws), length-take-le k ws h, length-drop k ws)

module _ (l : List ℕ) (count n : ℕ) (inside : count ≤ length l) where
  front : length (take count l) ≡ count
  front = length-take-le count l inside

  stays : inserted_of (take count l) n ≡ take count l → Inserted l count n count l
  stays e = rw e (sym front, sym (ap (λ (k : ℕ). take count l ++ drop k l) front ∙ take-append-drop count l))

  pub inserts_full : count ≡ enough → Inserted l count n count l
  inserts_full e = stays (inserted_full (take count l) n (front ∙ e))

  module _ (more : count ≡ enough → ⊥) (k : ℕ) (place : k ≡ place_of (take count l) n) where
    as_insert : inserted_of (take count l) n ≡ insert n (take count l)
    as_insert = inserted_as (take count l) n (λ e. more (sym front ∙ e))

    at_place : k < count → get_or (take count l) (place_of (take count l) n) 0 ≡ get_or l k 0
    at_place h = ap (λ (j : ℕ). get_or (take count l) j 0) (sym place) ∙ get_or-take count l k 0 h

    pub inserts_there : k < count → get_or l k 0 ≡ n → Inserted l count n count l
    inserts_there h e = stays (as_insert ∙ insert_there n (take count l) (omega (arith, place, front)) (at_place h ∙ e))

    pub place_inside : k ≤ count
    place_inside = omega (arith, place, front, place_in n (take count l))

    pub inserts_put : (k < count → get_or l k 0 ≡ n → ⊥) → (l' : List ℕ) → l' ≡ over (put_in k n (take count l)) l → Inserted l count n (count + 1) l'
    inserts_put other l' e =
        let h : place_of (take count l) n < length (take count l) → get_or (take count l) (place_of (take count l) n) 0 ≡ n → ⊥ =
        λ m d. let j : k < count = omega (arith, place, front) in other j (sym (at_place j) ∙ d) in
        let q : inserted_of (take count l) n ≡ put_in k n (take count l) =
        as_insert ∙ insert_put n (take count l) h ∙ ap (λ (j : ℕ). put_in j n (take count l)) (sym place) in
        rw q (omega (arith, length_put k n (take count l) (omega (arith, place_inside, front)), front), e)

-- ---- the shift: the words from j on, up to the first `count`, stand one place further
abbrev pub Shifted : List ℕ → ℕ → ℕ → List ℕ
Shifted old count j = take (suc j) old ++ (drop j (take count old) ++ drop (suc count) old)

module _ (old : List ℕ) (count : ℕ) (room : count < length old) where
  first_part : length (take count old) ≡ count
  first_part = length-take-le count old (omega arith)

  pub shift_start : old ≡ Shifted old count count
  shift_start =
      let e : drop count (take count old) ≡ [] = drop_of_length-le (take count old) {i = count} (omega (arith, first_part)) in
      sym (ap (λ (xs : List ℕ). take (suc count) old ++ (xs ++ drop (suc count) old)) e ∙ take-append-drop (suc count) old)

  set_in : (j a : ℕ) → j ≤ count → set (Shifted old count j) j a ≡ take j old ++ (a ∷ (drop j (take count old) ++ drop (suc count) old))
  set_in j a h =
      let r = drop j (take count old) ++ drop (suc count) old in
      ap (λ (xs : List ℕ). set (xs ++ r) j a) (take-suc old j 0 (omega arith))
      ∙ ap (λ (xs : List ℕ). set xs j a) (append_assoc (take j old) (get_or old j 0 ∷ []) r)
      ∙ set_at (take j old) (get_or old j 0) r a j (length-take-le j old (omega arith))

  shift_step : (i : ℕ) → suc i ≤ count → set (Shifted old count (suc i)) (suc i) (get_or (Shifted old count (suc i)) i 0) ≡ Shifted old count i
  shift_step i h =
      let r = drop (suc i) (take count old) ++ drop (suc count) old in
      let l : length (take (suc (suc i)) old) ≡ suc (suc i) = length-take-le (suc (suc i)) old (omega arith) in
      let g : get_or (Shifted old count (suc i)) i 0 ≡ get_or old i 0 =
      get_or-append (take (suc (suc i)) old) r 0 i (omega (arith, l)) ∙ get_or-take (suc (suc i)) old i 0 (omega arith) in
      let d : drop i (take count old) ≡ get_or old i 0 ∷ drop (suc i) (take count old) =
      drop-cons (take count old) i 0 (omega (arith, first_part)) ∙ ap (λ (a : ℕ). a ∷ drop (suc i) (take count old)) (get_or-take count old i 0 (omega arith)) in
      set_in (suc i) (get_or (Shifted old count (suc i)) i 0) h
      ∙ ap (λ (a : ℕ). take (suc i) old ++ (a ∷ r)) g
      ∙ ap (λ (xs : List ℕ). take (suc i) old ++ (xs ++ drop (suc count) old)) (sym d)

  pub shift_next : (j : ℕ) → 0 < j → j ≤ count → set (Shifted old count j) j (get_or (Shifted old count j) (j - 1) 0) ≡ Shifted old count (j - 1)
  shift_next j h l =
      let e : suc (j - 1) ≡ j = omega arith in
      subst (λ (m : ℕ). set (Shifted old count m) m (get_or (Shifted old count m) (j - 1) 0) ≡ Shifted old count (j - 1)) e (shift_step (j - 1) (omega arith))

  shift_copy : (k : ℕ) → k ≤ count → copy_within old k count (k + 1) ≡ Shifted old count k
  shift_copy k h =
      let e : k + 1 + (count - k) ≡ suc count = omega arith in
      let d : drop k (take count old) ≡ take (count - k) (drop k old) =
      ap (λ (m : ℕ). drop k (take m old)) (let q : count ≡ k + (count - k) = omega arith in q) ∙ drop-take k (count - k) old in
      rw (e, d, add-one k) (append_assoc (take (suc k) old) (take (count - k) (drop k old)) (drop (suc count) old))

  pub shift_end : (k n : ℕ) → k ≤ count → set (copy_within old k count (k + 1)) k n ≡ over (put_in k n (take count old)) old
  shift_end k n h =
      let p = take count old in
      let t : take k p ≡ take k old = take-take k count old h in
      let m : length (put_in k n p) ≡ suc count = omega (arith, length_put k n p (omega (arith, first_part)), first_part) in
      ap (λ (xs : List ℕ). set xs k n) (shift_copy k h)
      ∙ set_in k n h
      ∙ ap (λ (xs : List ℕ). xs ++ (n ∷ (drop k p ++ drop (suc count) old))) (sym t)
      ∙ sym (append_assoc (take k p) (n ∷ drop k p) (drop (suc count) old))
      ∙ ap (λ (i : ℕ). put_in k n p ++ drop i old) (sym m)

  pub shift_put : (k n : ℕ) → k ≤ count → set (Shifted old count k) k n ≡ over (put_in k n (take count old)) old
  shift_put k n h =
      let p = take count old in
      let t : take k p ≡ take k old = take-take k count old h in
      let m : length (put_in k n p) ≡ suc count = omega (arith, length_put k n p (omega (arith, first_part)), first_part) in
      set_in k n h
      ∙ ap (λ (xs : List ℕ). xs ++ (n ∷ (drop k p ++ drop (suc count) old))) (sym t)
      ∙ sym (append_assoc (take k p) (n ∷ drop k p) (drop (suc count) old))
      ∙ ap (λ (i : ℕ). put_in k n p ++ drop i old) (sym m)
