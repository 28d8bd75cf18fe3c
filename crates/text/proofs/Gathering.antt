-- Numbers put into rising ones, each once: whatever their order, and however often they came.
--   insert_by             what holds of some numbers and of those with n put in, by the three ways that putting in goes
--   insert_rising, insert_within, insert_more, insert_most      n put in: still rising, still within limits, at most one more
--   insert_has, insert_keeps, insert_from      what is among them then
--   gather_rising, gather_within, gather_more, gather_most, gather_has, gather_from      the same of some numbers put in
--   rising_above          what is among rising numbers is above the bound
--   Same as bs            two lists with the same members
--   rising_same           rising numbers with the same members are the same
--   gather_stays          rising numbers are gathered to themselves
--   gather_same           the same numbers in another order, or repeated, are gathered to the same
--   bodies_some           a negative literal without its minus is not 0
--   body_rising           a body rises
--   each_is               of numbers that are each h: one of them
--   heads_same, bodies_same      of literals with the same members
--   body_same, head_same, clause_same      they make the same body, the same head, the same clause
-- Assumes nothing.
use Prim.Native.Nat.{ℕ, zero, suc, ◌+◌, ◌≤◌, ◌<◌}
use mathlib.Core.Path.{◌≡◌, refl, sym, ap, ◌∙◌}
use mathlib.Core.Logic.{◌⊎◌, inl, inr, ⊎_elim}
use mathlib.Core.List.Memᴰ
use mathlib.Core.List.{List, [], ◌∷◌, Memᴰ}
use mathlib.Core.Bool.{Bool, true, false, cond}
use native.Mathlib.Omega.{arith}
use lib.IntN.{ℤ, pos, negsuc}
use lib.ListN.{length, get_or}
use lib.Dec.{ltb, eqb}
use borrow.Author.Tests.{ltb-true, ltb-false, eqb-true, eqb-false}
use Rattle.answer.proofs.Tests.{and_left, and_right}
use Rattle.field.specs.Words.{within, rising}
use Rattle.field.proofs.Words.{within_cons, cons_within, rising_cons, cons_rising}
use Rattle.meaning.specs.Book.{clause_from}
use Rattle.text.specs.Taking.{heads, bodies, head_in, each, insert, gather, body_in, clause_in}

module _ (n : ℕ) (P : List ℕ → List ℕ → Type 0)
    (none : P [] (n ∷ []))
    (before : (w : ℕ) (ws : List ℕ) → n < w → P (w ∷ ws) (n ∷ (w ∷ ws)))
    (there : (w : ℕ) (ws : List ℕ) → n ≡ w → P (w ∷ ws) (w ∷ ws))
    (after : (w : ℕ) (ws : List ℕ) → w < n → P ws (insert n ws) → P (w ∷ ws) (w ∷ insert n ws)) where
  pub insert_by : (ws : List ℕ) → P ws (insert n ws)
  unfolding insert
  insert_by [] = none
  insert_by (w ∷ ws) = go (ltb n w) (eqb n w) (ltb-true n w) (ltb-false n w) (eqb-true n w) (eqb-false n w) (insert_by ws)
    where
      go : (a b : Bool) → (a ≡ true → n < w) → (a ≡ false → w ≤ n) → (b ≡ true → n ≡ w) → (b ≡ false → n ≡ w → ⊥)
          → P ws (insert n ws) → P (w ∷ ws) (cond a (n ∷ (w ∷ ws)) (cond b (w ∷ ws) (w ∷ insert n ws)))
      go true b lt ge eq ne q = before w ws (lt refl)
      go false true lt ge eq ne q = there w ws (eq refl)
      go false false lt ge eq ne q = after w ws (let m = ge refl in let d = ne refl in omega arith) q

module _ (n : ℕ) where
  pub insert_rising : (b : ℕ) (ws : List ℕ) → b < n → rising b ws ≡ true → rising b (insert n ws) ≡ true
  unfolding rising
  insert_rising b ws h e =
      insert_by n (λ us r. (c : ℕ) → c < n → rising c us ≡ true → rising c r ≡ true)
      (λ c l q. cons_rising c n [] l refl)
      (λ w us m c l q. cons_rising c n (w ∷ us) l (cons_rising n w us m (rising_cons c w us q).1))
      (λ w us m c l q. q)
      (λ w us m ih c l q. let k = rising_cons c w us q in cons_rising c w (insert n us) k.0 (ih w m k.1))
      ws b h e

  pub insert_within : (low high : ℕ) (ws : List ℕ) → low ≤ n → n ≤ high → within low high ws ≡ true → within low high (insert n ws) ≡ true
  unfolding within
  insert_within low high ws l h e =
      insert_by n (λ us r. within low high us ≡ true → within low high r ≡ true)
      (λ q. cons_within low high n [] l h refl)
      (λ w us m q. cons_within low high n (w ∷ us) l h q)
      (λ w us m q. q)
      (λ w us m ih q. let k = within_cons low high w us q in cons_within low high w (insert n us) k.0 k.1 (ih k.2))
      ws e

  pub insert_more : (ws : List ℕ) → length ws ≤ length (insert n ws)
  insert_more = insert_by n (λ us r. length us ≤ length r) (omega arith) (λ w us m. omega arith) (λ w us m. omega arith) (λ w us m ih. omega arith)

  pub insert_most : (ws : List ℕ) → length (insert n ws) ≤ suc (length ws)
  insert_most = insert_by n (λ us r. length r ≤ suc (length us)) (omega arith) (λ w us m. omega arith) (λ w us m. omega arith) (λ w us m ih. omega arith)

  pub insert_has : (ws : List ℕ) → Memᴰ n (insert n ws)
  insert_has =
      insert_by n (λ us r. Memᴰ n r) (Memᴰ.head refl) (λ w us m. Memᴰ.head refl) (λ w us m. Memᴰ.head m) (λ w us m ih. Memᴰ.tail ih)

  pub insert_keeps : (x : ℕ) (ws : List ℕ) → Memᴰ x ws → Memᴰ x (insert n ws)
  insert_keeps x ws k =
      insert_by n (λ us r. Memᴰ x us → Memᴰ x r)
      (λ q. Memᴰ.tail q)
      (λ w us m q. Memᴰ.tail q)
      (λ w us m q. q)
      (λ w us m ih q. ⊎_elim (λ (e : x ≡ w). Memᴰ.head e) (λ (t : Memᴰ x us). Memᴰ.tail (ih t)) (Memᴰ.cases_cons q))
      ws k

  pub insert_from : (x : ℕ) (ws : List ℕ) → Memᴰ x (insert n ws) → (x ≡ n) ⊎ Memᴰ x ws
  insert_from x ws k =
      insert_by n (λ us r. Memᴰ x r → (x ≡ n) ⊎ Memᴰ x us)
      (λ q. Memᴰ.cases_cons q)
      (λ w us m q. Memᴰ.cases_cons q)
      (λ w us m q. inr q)
      (λ w us m ih q. ⊎_elim (λ (e : x ≡ w). inr (Memᴰ.head e)) (λ (t : Memᴰ x (insert n us)). more w us (ih t)) (Memᴰ.cases_cons q))
      ws k
    where
      more : (w : ℕ) (us : List ℕ) → (x ≡ n) ⊎ Memᴰ x us → (x ≡ n) ⊎ Memᴰ x (w ∷ us)
      more w us (inl e) = inl e
      more w us (inr t) = inr (Memᴰ.tail t)

-- ---- some numbers put in
pub gather_rising : (b : ℕ) (ws ns : List ℕ) → ((x : ℕ) → Memᴰ x ns → b < x) → rising b ws ≡ true → rising b (gather ws ns) ≡ true
unfolding gather
gather_rising b ws [] h e = e
gather_rising b ws (n ∷ ns) h e = gather_rising b (insert n ws) ns (λ x k. h x (Memᴰ.tail k)) (insert_rising n b ws (h n (Memᴰ.head refl)) e)

pub gather_within : (low high : ℕ) (ws ns : List ℕ) → within low high ns ≡ true → within low high ws ≡ true → within low high (gather ws ns) ≡ true
unfolding gather
gather_within low high ws [] h e = e
gather_within low high ws (n ∷ ns) h e =
    let k = within_cons low high n ns h in
    gather_within low high (insert n ws) ns k.2 (insert_within n low high ws k.0 k.1 e)

pub gather_more : (ws ns : List ℕ) → length ws ≤ length (gather ws ns)
unfolding gather
gather_more ws [] = omega arith
gather_more ws (n ∷ ns) = omega (arith, insert_more n ws, gather_more (insert n ws) ns)

pub gather_most : (ws ns : List ℕ) → length (gather ws ns) ≤ length ws + length ns
unfolding gather
gather_most ws [] = omega arith
gather_most ws (n ∷ ns) = omega (arith, insert_most n ws, gather_most (insert n ws) ns)

pub gather_has : (x : ℕ) (ws ns : List ℕ) → Memᴰ x ws ⊎ Memᴰ x ns → Memᴰ x (gather ws ns)
unfolding gather
gather_has x ws [] (inl k) = k
gather_has x ws [] (inr k) = absurd (Memᴰ.not-nil k)
gather_has x ws (n ∷ ns) (inl k) = gather_has x (insert n ws) ns (inl (insert_keeps n x ws k))
gather_has x ws (n ∷ ns) (inr k) = gather_has x (insert n ws) ns (go (Memᴰ.cases_cons k))
  where
    go : (x ≡ n) ⊎ Memᴰ x ns → Memᴰ x (insert n ws) ⊎ Memᴰ x ns
    go (inl e) = inl (Memᴰ.cast e (insert_has n ws))
    go (inr t) = inr t

pub gather_from : (x : ℕ) (ws ns : List ℕ) → Memᴰ x (gather ws ns) → Memᴰ x ws ⊎ Memᴰ x ns
unfolding gather
gather_from x ws [] k = inl k
gather_from x ws (n ∷ ns) k = go (gather_from x (insert n ws) ns k)
  where
    at : (x ≡ n) ⊎ Memᴰ x ws → Memᴰ x ws ⊎ Memᴰ x (n ∷ ns)
    at (inl e) = inr (Memᴰ.head e)
    at (inr t) = inl t

    go : Memᴰ x (insert n ws) ⊎ Memᴰ x ns → Memᴰ x ws ⊎ Memᴰ x (n ∷ ns)
    go (inl t) = at (insert_from n x ws t)
    go (inr t) = inr (Memᴰ.tail t)

-- ---- in any order, repeated
pub rising_above : (b : ℕ) (ws : List ℕ) → rising b ws ≡ true → (x : ℕ) → Memᴰ x ws → b < x
rising_above b [] e x k = absurd (Memᴰ.not-nil k)
rising_above b (w ∷ ws) e x k =
    let r = rising_cons b w ws e in
    ⊎_elim (λ (q : x ≡ w). omega (arith, r.0)) (λ (t : Memᴰ x ws). omega (arith, r.0, rising_above w ws r.1 x t)) (Memᴰ.cases_cons k)

abbrev pub Same : {A : Type 0} → List A → List A → Type 0
Same {A} us ws = ((x : A) → Memᴰ x us → Memᴰ x ws) × ((x : A) → Memᴰ x ws → Memᴰ x us)

-- numbers that rise, wherever they begin
abbrev Rises : List ℕ → Type 0
Rises [] = Unit {0}
Rises (w ∷ ws) = rising w ws ≡ true

rising_rises : (b : ℕ) (ws : List ℕ) → rising b ws ≡ true → Rises ws
rising_rises b [] e = tt
rising_rises b (w ∷ ws) e = (rising_cons b w ws e).1

insert_rises : (n : ℕ) (ws : List ℕ) → Rises ws → Rises (insert n ws)
unfolding rising
insert_rises n =
    insert_by n (λ us r. Rises us → Rises r) (λ q. refl) (λ w us m q. cons_rising n w us m q) (λ w us m q. q) (λ w us m ih q. insert_rising n w us m q)

gather_rises : (ws ns : List ℕ) → Rises ws → Rises (gather ws ns)
unfolding gather
gather_rises ws [] r = r
gather_rises ws (n ∷ ns) r = gather_rises (insert n ws) ns (insert_rises n ws r)

-- the tails of rising numbers that begin the same
tail_in : (u w : ℕ) (us ws : List ℕ) → u ≡ w → rising u us ≡ true → ((x : ℕ) → Memᴰ x (u ∷ us) → Memᴰ x (w ∷ ws)) → (x : ℕ) → Memᴰ x us → Memᴰ x ws
tail_in u w us ws e r f x k =
    let l = rising_above u us r x k in
    ⊎_elim (λ (q : x ≡ w). absurd (omega arith)) (λ (t : Memᴰ x ws). t) (Memᴰ.cases_cons (f x (Memᴰ.tail k)))

-- a first number is not below the other's first
not_below : (u w : ℕ) (ws : List ℕ) → rising w ws ≡ true → Memᴰ u (w ∷ ws) → w ≤ u
not_below u w ws r k = ⊎_elim (λ (q : u ≡ w). omega arith) (λ (t : Memᴰ u ws). omega (arith, rising_above w ws r u t)) (Memᴰ.cases_cons k)

rises_same : (us ws : List ℕ) → Rises us → Rises ws → Same us ws → us ≡ ws
rises_same [] [] p q s = refl
rises_same [] (w ∷ ws) p q s = absurd (Memᴰ.not-nil (s.1 w (Memᴰ.head refl)))
rises_same (u ∷ us) [] p q s = absurd (Memᴰ.not-nil (s.0 u (Memᴰ.head refl)))
rises_same (u ∷ us) (w ∷ ws) p q s =
    let a : u ≡ w = omega (arith, not_below u w ws q (s.0 u (Memᴰ.head refl)), not_below w u us p (s.1 w (Memᴰ.head refl))) in
    let t = rises_same us ws (rising_rises u us p) (rising_rises w ws q) (tail_in u w us ws a p s.0, tail_in w u ws us (sym a) q s.1) in
    cc

pub rising_same : (b c : ℕ) (us ws : List ℕ) → rising b us ≡ true → rising c ws ≡ true → Same us ws → us ≡ ws
rising_same b c us ws p q s = rises_same us ws (rising_rises b us p) (rising_rises c ws q) s

-- what is gathered from the one is gathered from the other
gather_in : (ms ns : List ℕ) → ((x : ℕ) → Memᴰ x ms → Memᴰ x ns) → (x : ℕ) → Memᴰ x (gather [] ms) → Memᴰ x (gather [] ns)
gather_in ms ns f x k = gather_has x [] ns (go (gather_from x [] ms k))
  where
    go : Memᴰ x [] ⊎ Memᴰ x ms → Memᴰ x [] ⊎ Memᴰ x ns
    go (inl t) = inl t
    go (inr t) = inr (f x t)

pub gather_same : (ms ns : List ℕ) → Same ms ns → gather [] ms ≡ gather [] ns
gather_same ms ns s =
    rises_same (gather [] ms) (gather [] ns) (gather_rises [] ms tt) (gather_rises [] ns tt) (gather_in ms ns s.0, gather_in ns ms s.1)

pub gather_stays : (b : ℕ) (ns : List ℕ) → rising b ns ≡ true → gather [] ns ≡ ns
gather_stays b ns h = rises_same (gather [] ns) ns (gather_rises [] ns tt) (rising_rises b ns h) ((λ x k. go x (gather_from x [] ns k)), (λ x k. gather_has x [] ns (inr k)))
  where
    go : (x : ℕ) → Memᴰ x [] ⊎ Memᴰ x ns → Memᴰ x ns
    go x (inl k) = absurd (Memᴰ.not-nil k)
    go x (inr k) = k

-- ---- literals
pub bodies_some : (zs : List ℤ) (x : ℕ) → Memᴰ x (bodies zs) → 0 < x
unfolding bodies
bodies_some [] x k = absurd (Memᴰ.not-nil k)
bodies_some (pos n ∷ zs) x k = bodies_some zs x k
bodies_some (negsuc n ∷ zs) x k = ⊎_elim (λ (e : x ≡ suc n). omega arith) (λ (t : Memᴰ x (bodies zs)). bodies_some zs x t) (Memᴰ.cases_cons k)

pub body_rising : (zs : List ℤ) → rising 0 (body_in zs) ≡ true
unfolding rising
body_rising zs = gather_rising 0 [] (bodies zs) (bodies_some zs) refl

head_in_lem : (zs : List ℤ) (n : ℕ) → Memᴰ n (heads zs) → Memᴰ (pos n) zs
unfolding heads
head_in_lem [] n k = absurd (Memᴰ.not-nil k)
head_in_lem (pos m ∷ zs) n k = ⊎_elim (λ (e : n ≡ m). Memᴰ.head (ap pos e)) (λ (t : Memᴰ n (heads zs)). Memᴰ.tail (head_in_lem zs n t)) (Memᴰ.cases_cons k)
head_in_lem (negsuc m ∷ zs) n k = Memᴰ.tail (head_in_lem zs n k)

in_head : (zs : List ℤ) (n : ℕ) → Memᴰ (pos n) zs → Memᴰ n (heads zs)
unfolding heads
in_head [] n k = absurd (Memᴰ.not-nil k)
in_head (pos m ∷ zs) n k =
    ⊎_elim (λ (e : pos n ≡ pos m). Memᴰ.head (let q : n ≡ m = cc in q)) (λ (t : Memᴰ (pos n) zs). Memᴰ.tail (in_head zs n t)) (Memᴰ.cases_cons k)
in_head (negsuc m ∷ zs) n k =
    ⊎_elim (λ (e : pos n ≡ negsuc m). absurd (let z : ◌≡◌ {A = ℕ} 0 1 = cc in omega arith)) (λ (t : Memᴰ (pos n) zs). in_head zs n t) (Memᴰ.cases_cons k)

body_in_lem : (zs : List ℤ) (n : ℕ) → Memᴰ (suc n) (bodies zs) → Memᴰ (negsuc n) zs
unfolding bodies
body_in_lem [] n k = absurd (Memᴰ.not-nil k)
body_in_lem (negsuc m ∷ zs) n k =
    ⊎_elim (λ (e : suc n ≡ suc m). Memᴰ.head (let q : n ≡ m = omega arith in ap negsuc q)) (λ (t : Memᴰ (suc n) (bodies zs)). Memᴰ.tail (body_in_lem zs n t))
    (Memᴰ.cases_cons k)
body_in_lem (pos m ∷ zs) n k = Memᴰ.tail (body_in_lem zs n k)

in_body : (zs : List ℤ) (n : ℕ) → Memᴰ (negsuc n) zs → Memᴰ (suc n) (bodies zs)
unfolding bodies
in_body [] n k = absurd (Memᴰ.not-nil k)
in_body (negsuc m ∷ zs) n k =
    ⊎_elim (λ (e : negsuc n ≡ negsuc m). Memᴰ.head (let q : n ≡ m = cc in ap suc q)) (λ (t : Memᴰ (negsuc n) zs). Memᴰ.tail (in_body zs n t))
    (Memᴰ.cases_cons k)
in_body (pos m ∷ zs) n k =
    ⊎_elim (λ (e : negsuc n ≡ pos m). absurd (let z : ◌≡◌ {A = ℕ} 0 1 = cc in omega arith)) (λ (t : Memᴰ (negsuc n) zs). in_body zs n t) (Memᴰ.cases_cons k)

-- what is a body literal of the one is one of the other
bodies_in : (zs ys : List ℤ) → ((z : ℤ) → Memᴰ z zs → Memᴰ z ys) → (x : ℕ) → Memᴰ x (bodies zs) → Memᴰ x (bodies ys)
bodies_in zs ys f zero k = absurd (let h = bodies_some zs 0 k in omega arith)
bodies_in zs ys f (suc n) k = in_body ys n (f (negsuc n) (body_in_lem zs n k))

module _ (zs ys : List ℤ) (s : Same zs ys) where
  pub heads_same : Same (heads zs) (heads ys)
  heads_same = (λ x k. in_head ys x (s.0 (pos x) (head_in_lem zs x k)), λ x k. in_head zs x (s.1 (pos x) (head_in_lem ys x k)))

  pub bodies_same : Same (bodies zs) (bodies ys)
  bodies_same = (bodies_in zs ys s.0, bodies_in ys zs s.1)

  pub body_same : body_in zs ≡ body_in ys
  body_same = gather_same (bodies zs) (bodies ys) bodies_same

pub each_is : (h : ℕ) (ns : List ℕ) → each h ns ≡ true → (n : ℕ) → Memᴰ n ns → n ≡ h
unfolding each
each_is h [] e n k = absurd (Memᴰ.not-nil k)
each_is h (m ∷ ns) e n k =
    ⊎_elim (λ (q : n ≡ m). q ∙ eqb-true m h (and_left (eqb m h) (each h ns) e)) (λ (t : Memᴰ n ns). each_is h ns (and_right (eqb m h) (each h ns) e) n t)
    (Memᴰ.cases_cons k)

-- the first of numbers that are all the same is the first of any others with the same members
first_same : (ms ns : List ℕ) → each (get_or ms 0 0) ms ≡ true → Same ms ns → get_or ms 0 0 ≡ get_or ns 0 0
first_same [] [] e s = refl
first_same [] (n ∷ ns) e s = absurd (Memᴰ.not-nil (s.1 n (Memᴰ.head refl)))
first_same (m ∷ ms) [] e s = absurd (Memᴰ.not-nil (s.0 m (Memᴰ.head refl)))
first_same (m ∷ ms) (n ∷ ns) e s = sym (each_is m (m ∷ ms) e n (s.1 n (Memᴰ.head refl)))

module _ (zs ys : List ℤ) (s : Same zs ys) (one : each (head_in zs) (heads zs) ≡ true) where
  pub head_same : head_in zs ≡ head_in ys
  head_same = first_same (heads zs) (heads ys) one (heads_same zs ys s)

  pub clause_same : (g : ℕ) → clause_in g zs ≡ clause_in g ys
  clause_same g = ap (λ (h : ℕ). clause_from (g ∷ []) h (body_in zs)) head_same ∙ ap (λ (ws : List ℕ). clause_from (g ∷ []) (head_in ys) ws) (body_same zs ys s)
