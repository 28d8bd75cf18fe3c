-- Laws of records as words.
--   is_explanation, is_repair      what a kind makes of a set
--   records_none, records_next     the first records: none, and one more in front
--   record_in                      record i is one of the first c where i < c
--   allowed_by, allowed_not        the first c records leave a choice where each of them does; not where one does not
--   one_more                       a loop's step from what holds before i to what holds before i + 1
--   words_length, length_records      the words of so many records, and the records of so many words
--   record_back, set_back          a record written and read; the set of one that is read
--   records_read                   the records that were written as words are read back
--   records_kept                   records with no faulty word, read and written, are the words they were
--   record_put                     a record written behind others is one more of them
--   faulty_kind, faulty_set        a kind that is neither, a set beyond the groups
--   first_here, first_next, first_end      the first that passes: here, not here, nowhere
--   first_le, first_none           it lies within what is searched; its end where none passes
--   fault_is                       the lowest faulty word is such a first
--   fault_le                       ... within the records, or their end
--   no_fault, fault_none           where it is their end, no word is faulty, and every kind is 1 or 2
-- Assumes nothing.
use Prim.Native.Nat.{ℕ, zero, suc, ◌+◌, ◌-◌, ◌*◌, ◌%◌, ◌^◌, ◌≤◌, ◌<◌}
use mathlib.Core.Path.{◌≡◌, refl, sym, ap, ap₂, ◌∙◌, subst}
use mathlib.Core.Logic.{◌⊎◌, inl, inr, ◌≢◌}
use mathlib.Core.List.{List, [], ◌∷◌, ◌++◌, append_assoc, Memᴰ}
use mathlib.Core.Bool.{Bool, true, false, not, ◌&&◌, cond}
use native.Mathlib.Omega.{arith}
use native.Mathlib.Decide.{ℕ_discrete}
use lib.Dec.{eqb, ltb}
use lib.ListN.{length, get_or, set, drop, length-append, length-drop}
use lib.Seq.{get_or-drop, drop-drop, drop-cons}
use borrow.Author.Tests.{eq-eqb, ne_eqb}
use Rattle.answer.specs.Space.{over}
use Rattle.answer.proofs.Tests.{holds_or, clash}
use Rattle.rounds.specs.Records.{Record, explains, repairs, allows, allowed}
use Rattle.rounds.specs.Rounds.{first_from}
use Rattle.rounds.proofs.Insertion.{first_from_is}
use Rattle.rounds.proofs.Seeds.{allowed_none, allowed_first, shut_at}
use Rattle.records.specs.Words.{record_words, room, kind_at, set_at, record_from, records_of, kind_of, set_of, words_of, put_record, faulty, fault}

pub is_explanation : (k s : ℕ) → k ≡ 1 → record_from k s ≡ explains s
unfolding record_from
is_explanation k s e = ap (λ (b : Bool). cond b (explains s) (repairs s)) (eq-eqb k 1 e)

pub is_repair : (k s : ℕ) → k ≢ 1 → record_from k s ≡ repairs s
unfolding record_from
is_repair k s o = ap (λ (b : Bool). cond b (explains s) (repairs s)) (ne_eqb k 1 o)

pub records_none : (ws : List ℕ) → records_of ws 0 ≡ []
unfolding records_of
records_none ws = refl

pub records_next : (ws : List ℕ) (c : ℕ) → records_of ws (suc c) ≡ record_from (kind_at ws 0) (set_at ws 0) ∷ records_of (drop record_words ws) c
unfolding records_of
records_next ws c = refl

-- record i + 1 is record i of what follows the first
later : (ws : List ℕ) (i : ℕ) → record_from (kind_at (drop record_words ws) i) (set_at (drop record_words ws) i) ≡ record_from (kind_at ws (suc i)) (set_at ws (suc i))
later ws i =
    ap₂ record_from
    (get_or-drop 2 ws (2 * i) 0 ∙ ap (λ (j : ℕ). get_or ws j 0) (let e : 2 + 2 * i ≡ 2 * suc i = omega arith in e))
    (get_or-drop 2 ws (2 * i + 1) 0 ∙ ap (λ (j : ℕ). get_or ws j 0) (let e : 2 + (2 * i + 1) ≡ 2 * suc i + 1 = omega arith in e))

pub record_in : (ws : List ℕ) (c i : ℕ) → i < c → Memᴰ (record_from (kind_at ws i) (set_at ws i)) (records_of ws c)
record_in ws zero i h = absurd (omega arith)
record_in ws (suc c) zero h = subst (Memᴰ (record_from (kind_at ws 0) (set_at ws 0))) (sym (records_next ws c)) (Memᴰ.head refl)
record_in ws (suc c) (suc i) h =
    subst (Memᴰ (record_from (kind_at ws (suc i)) (set_at ws (suc i)))) (sym (records_next ws c))
    (Memᴰ.tail (subst (λ (r : Record). Memᴰ r (records_of (drop record_words ws) c)) (later ws i) (record_in (drop record_words ws) c i (omega arith))))

pub allowed_by : (ws : List ℕ) (c x : ℕ) → ((i : ℕ) → i < c → allows (record_from (kind_at ws i) (set_at ws i)) x ≡ true) → allowed (records_of ws c) x ≡ true
allowed_by ws zero x f = ap (λ (rs : List Record). allowed rs x) (records_none ws) ∙ allowed_none x
allowed_by ws (suc c) x f =
    ap (λ (rs : List Record). allowed rs x) (records_next ws c) ∙ allowed_first (record_from (kind_at ws 0) (set_at ws 0)) (records_of (drop record_words ws) c) x
    ∙ ap₂ (λ (a b : Bool). a && b) (f 0 (omega arith)) (allowed_by (drop record_words ws) c x (λ i h. ap (λ (r : Record). allows r x) (later ws i) ∙ f (suc i) (omega arith)))

-- what holds of each record before i, and of record i, holds of each before i + 1
pub one_more : (P : ℕ → Type 0) (i : ℕ) → ((j : ℕ) → j < i → P j) → P i → (j : ℕ) → j < i + 1 → P j
one_more P i f p j h = go (ℕ_discrete j i)
  where
    go : Dec (j ≡ i) → P j
    go (yes e) = subst P (sym e) p
    go (no o) = f j (omega arith)

pub allowed_not : (ws : List ℕ) (c x i : ℕ) → i < c → allows (record_from (kind_at ws i) (set_at ws i)) x ≡ false → allowed (records_of ws c) x ≡ false
allowed_not ws c x i h e = shut_at (records_of ws c) x (record_from (kind_at ws i) (set_at ws i)) (record_in ws c i h) e

pub words_length : (rs : List Record) → length (words_of rs) ≡ record_words * length rs
unfolding words_of
words_length [] = refl
words_length (r ∷ rs) = omega (arith, words_length rs)

pub record_back : (r : Record) → record_from (kind_of r) (set_of r) ≡ r
unfolding record_from kind_of set_of
record_back (explains e) = refl
record_back (repairs r) = refl

pub records_read : (rs : List Record) (ws : List ℕ) → records_of (words_of rs ++ ws) (length rs) ≡ rs
unfolding words_of
records_read [] ws = records_none ws
records_read (r ∷ rs) ws = records_next (kind_of r ∷ set_of r ∷ words_of rs ++ ws) (length rs) ∙ ap₂ (λ (q : Record) (qs : List Record). q ∷ qs) (record_back r) (records_read rs ws)

kind_back : (k s : ℕ) → (k ≡ 1) ⊎ (k ≡ 2) → kind_of (record_from k s) ≡ k
unfolding kind_of
kind_back k s (inl e) = ap kind_of (is_explanation k s e) ∙ sym e
kind_back k s (inr e) = ap kind_of (is_repair k s (λ o. omega (arith, e, o))) ∙ sym e

pub set_back : (k s : ℕ) → set_of (record_from k s) ≡ s
unfolding set_of record_from
set_back k s = go (eqb k 1)
  where
    go : (b : Bool) → set_of (cond b (explains s) (repairs s)) ≡ s
    go true = refl
    go false = refl

two_front : (ws : List ℕ) → 2 ≤ length ws → get_or ws 0 0 ∷ get_or ws 1 0 ∷ drop 2 ws ≡ ws
two_front [] h = absurd (omega arith)
two_front (a ∷ []) h = absurd (omega arith)
two_front (a ∷ (b ∷ ws)) h = refl

words_back : (ws : List ℕ) (c : ℕ) → c ≤ room ws → ((i : ℕ) → i < c → (kind_at ws i ≡ 1) ⊎ (kind_at ws i ≡ 2)) → words_of (records_of ws c) ++ drop (record_words * c) ws ≡ ws
unfolding words_of records_of
words_back ws zero h f = refl
words_back ws (suc c) h f =
    ap₂ (λ (a b : ℕ). a ∷ b ∷ (words_of (records_of (drop 2 ws) c) ++ drop (2 * suc c) ws)) (kind_back (kind_at ws 0) (set_at ws 0) (f 0 (omega arith))) (set_back (kind_at ws 0) (set_at ws 0))
    ∙ ap (λ (l : List ℕ). get_or ws 0 0 ∷ get_or ws 1 0 ∷ l)
    (ap (λ (l : List ℕ). words_of (records_of (drop 2 ws) c) ++ l) (ap (λ (j : ℕ). drop j ws) (let e : 2 * suc c ≡ 2 + 2 * c = omega arith in e) ∙ sym (drop-drop (2 * c) 2 ws))
    ∙ words_back (drop 2 ws) c (omega (arith, length-drop 2 ws)) (λ i l. kinds i (f (suc i) (omega arith))))
    ∙ two_front ws (omega arith)
  where
    kinds : (i : ℕ) → (kind_at ws (suc i) ≡ 1) ⊎ (kind_at ws (suc i) ≡ 2) → (kind_at (drop 2 ws) i ≡ 1) ⊎ (kind_at (drop 2 ws) i ≡ 2)
    kinds i = subst (λ (k : ℕ). (k ≡ 1) ⊎ (k ≡ 2)) (sym (get_or-drop 2 ws (2 * i) 0 ∙ ap (λ (j : ℕ). get_or ws j 0) (let e : 2 + 2 * i ≡ 2 * suc i = omega arith in e)))

pub length_records : (ws : List ℕ) (c : ℕ) → length (records_of ws c) ≡ c
unfolding records_of
length_records ws zero = refl
length_records ws (suc c) = ap suc (length_records (drop 2 ws) c)

words_more : (rs : List Record) (r : Record) → words_of (rs ++ (r ∷ [])) ≡ words_of rs ++ (kind_of r ∷ set_of r ∷ [])
unfolding words_of
words_more [] r = refl
words_more (q ∷ rs) r = ap (λ (l : List ℕ). kind_of q ∷ set_of q ∷ l) (words_more rs r)

put_seam : (xs : List ℕ) (a b k s : ℕ) (t : List ℕ) → set (set (xs ++ (a ∷ (b ∷ t))) (length xs) k) (suc (length xs)) s ≡ xs ++ (k ∷ (s ∷ t))
put_seam [] a b k s t = refl
put_seam (x ∷ xs) a b k s t = ap (λ (l : List ℕ). x ∷ l) (put_seam xs a b k s t)

pub record_put : (rs : List Record) (ws : List ℕ) (i k s : ℕ) → i ≡ length rs → length rs < room ws → (k ≡ 1) ⊎ (k ≡ 2)
    → put_record (over (words_of rs) ws) i k s ≡ over (words_of (rs ++ (record_from k s ∷ []))) ws
unfolding put_record
record_put rs ws i k s e h q =
    ap₂ (λ (m j : ℕ). set (set (over (words_of rs) ws) m k) j s) at (let z : 2 * i + 1 ≡ suc n = omega (arith, at) in z)
    ∙ ap (λ (l : List ℕ). set (set (words_of rs ++ l) n k) (suc n) s) (drop-cons ws n 0 (omega (arith, at, e)) ∙ ap (λ (l : List ℕ). get_or ws n 0 ∷ l) (drop-cons ws (suc n) 0 (omega (arith, at, e))))
    ∙ put_seam (words_of rs) (get_or ws n 0) (get_or ws (suc n) 0) k s (drop (suc (suc n)) ws)
    ∙ ap₂ (λ (a b : ℕ). words_of rs ++ (a ∷ (b ∷ drop (suc (suc n)) ws))) (sym (kind_back k s q)) (sym (set_back k s))
    ∙ sym (append_assoc (words_of rs) (kind_of (record_from k s) ∷ (set_of (record_from k s) ∷ [])) (drop (suc (suc n)) ws))
    ∙ ap₂ (λ (a : List ℕ) (j : ℕ). a ++ drop j ws) (sym (words_more rs (record_from k s)))
    (sym (words_length (rs ++ (record_from k s ∷ []))
    ∙ (let z : 2 * length (rs ++ (record_from k s ∷ [])) ≡ suc (suc n) = omega (arith, length-append rs (record_from k s ∷ []), words_length rs) in z)))
  where
    n : ℕ
    n = length (words_of rs)

    at : 2 * i ≡ n
    at = omega (arith, e, words_length rs)

-- ---- faulty words
pub faulty_kind : (n i w : ℕ) → i % 2 ≡ 0 → faulty n i w ≡ (not (eqb w 1) && not (eqb w 2))
unfolding faulty
faulty_kind n i w e = ap (λ (b : Bool). cond b (not (eqb w 1) && not (eqb w 2)) (not (ltb w (2 ^ n)))) (eq-eqb (i % 2) 0 e)

pub faulty_set : (n i w : ℕ) → i % 2 ≢ 0 → faulty n i w ≡ not (ltb w (2 ^ n))
unfolding faulty
faulty_set n i w o = ap (λ (b : Bool). cond b (not (eqb w 1) && not (eqb w 2)) (not (ltb w (2 ^ n)))) (ne_eqb (i % 2) 0 o)

-- the search for the first that passes, as a loop makes it: k are left, from i on
module _ (p : ℕ → Bool) (k i : ℕ) where
  pub first_here : 0 < k → p i ≡ true → first_from p k i ≡ i
  unfolding first_from
  first_here h e = ap (λ (j : ℕ). first_from p j i) (let z : k ≡ suc (k - 1) = omega arith in z) ∙ ap (λ (b : Bool). elim b as (λ _. ℕ) [ true ↦ i | false ↦ first_from p (k - 1) (suc i) ]) e

  pub first_next : 0 < k → p i ≡ false → first_from p k i ≡ first_from p (k - 1) (i + 1)
  unfolding first_from
  first_next h e =
      ap (λ (j : ℕ). first_from p j i) (let z : k ≡ suc (k - 1) = omega arith in z) ∙ ap (λ (b : Bool). elim b as (λ _. ℕ) [ true ↦ i | false ↦ first_from p (k - 1) (suc i) ]) e
      ∙ ap (first_from p (k - 1)) (let z : suc i ≡ i + 1 = omega arith in z)

  pub first_end : k ≡ 0 → first_from p k i ≡ i
  unfolding first_from
  first_end e = ap (λ (j : ℕ). first_from p j i) e

pub first_le : (p : ℕ → Bool) (k i : ℕ) → first_from p k i ≤ i + k
unfolding first_from
first_le p zero i = omega arith
first_le p (suc k) i = go (p i) (first_le p k (suc i))
  where
    go : (b : Bool) → first_from p k (suc i) ≤ suc i + k → elim b as (λ _. ℕ) [ true ↦ i | false ↦ first_from p k (suc i) ] ≤ i + suc k
    go true ih = omega arith
    go false ih = omega (arith, ih)

pub first_none : (p : ℕ → Bool) (k i : ℕ) → ((m : ℕ) → i ≤ m → m < i + k → p m ≡ false) → first_from p k i ≡ i + k
first_none p zero i f = first_end p 0 i refl ∙ omega arith
first_none p (suc k) i f =
    first_next p (suc k) i (omega arith) (f i (omega arith) (omega arith)) ∙ ap (λ (j : ℕ). first_from p j (i + 1)) (let z : suc k - 1 ≡ k = omega arith in z)
    ∙ first_none p k (i + 1) (λ m l h. f m (omega arith) (omega arith)) ∙ omega arith

pub fault_is : (n : ℕ) (ws : List ℕ) (c : ℕ) → fault n ws c ≡ first_from (λ i. faulty n i (get_or ws i 0)) (record_words * c) 0
unfolding fault
fault_is n ws c = refl

pub fault_le : (n : ℕ) (ws : List ℕ) (c : ℕ) → fault n ws c ≤ record_words * c
unfolding fault
fault_le n ws c = omega (arith, first_le (λ i. faulty n i (get_or ws i 0)) (2 * c) 0)

module _ (n : ℕ) (ws : List ℕ) (c : ℕ) (e : fault n ws c ≡ record_words * c) where
  pub no_fault : (i : ℕ) → i < record_words * c → faulty n i (get_or ws i 0) ≡ false
  no_fault i h = go (holds_or (faulty n i (get_or ws i 0)))
    where
      go : (faulty n i (get_or ws i 0) ≡ true) ⊎ (faulty n i (get_or ws i 0) ≡ false) → faulty n i (get_or ws i 0) ≡ false
      go (inr f) = f
      go (inl t) = (first_from_is (λ j. faulty n j (get_or ws j 0)) (2 * c) 0 i (omega arith) (omega arith) t).2 i (omega arith) (omega (arith, h, sym (fault_is n ws c) ∙ e))

  pub fault_none : (i : ℕ) → i < c → (kind_at ws i ≡ 1) ⊎ (kind_at ws i ≡ 2)
  fault_none i h = go (ℕ_discrete (kind_at ws i) 1) (ℕ_discrete (kind_at ws i) 2)
    where
      f : (not (eqb (kind_at ws i) 1) && not (eqb (kind_at ws i) 2)) ≡ false
      f = sym (faulty_kind n (2 * i) (kind_at ws i) (omega arith)) ∙ no_fault (2 * i) (omega arith)

      go : Dec (kind_at ws i ≡ 1) → Dec (kind_at ws i ≡ 2) → (kind_at ws i ≡ 1) ⊎ (kind_at ws i ≡ 2)
      go (yes q) d = inl q
      go (no o) (yes q) = inr q
      go (no o) (no q) = absurd (clash (not (eqb (kind_at ws i) 1) && not (eqb (kind_at ws i) 2)) (ap₂ (λ (a b : Bool). not a && not b) (ne_eqb (kind_at ws i) 1 o) (ne_eqb (kind_at ws i) 2 q)) f)

  pub records_kept : c ≤ room ws → over (words_of (records_of ws c)) ws ≡ ws
  records_kept h = ap (λ (j : ℕ). words_of (records_of ws c) ++ drop j ws) (words_length (records_of ws c) ∙ ap (λ (j : ℕ). 2 * j) (length_records ws c)) ∙ words_back ws c h fault_none
