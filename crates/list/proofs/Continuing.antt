-- What rounds leave can be continued: the records are well formed, in any space that holds them.
--   Small n rs             each set names only groups of n
--   small_read             records with no faulty word are such
--   small_listing, small_rounds      and so are those that rounds add
--   still_open             the records that rounds left can stand in any space that holds them
--   still_lists            and a call on them, with enough working space, is not refused
--   again                  so a call can go on where another one ended
-- Assumes nothing.
use Prim.Native.Nat.{ℕ, zero, suc, ◌+◌, ◌-◌, ◌*◌, ◌%◌, ◌^◌, ◌≤◌, ◌<◌}
use mathlib.Core.Path.{◌≡◌, refl, sym, ap, ap₂, ◌∙◌, subst}
use mathlib.Core.List.{List, [], ◌∷◌, ◌++◌}
use mathlib.Core.Bool.{Bool, false, not, ◌&&◌, cond}
use native.Mathlib.Omega.{arith}
use lib.Dec.{eqb, ltb}
use lib.ListN.{length, get_or, drop}
use lib.Seq.{get_or-drop}
use borrow.Author.Tests.{lt-ltb, ltb-true, not-false}
use Rattle.answer.specs.Answer.{answered}
use Rattle.answer.specs.Space.{over}
use Rattle.answer.proofs.Spaces.{length_over}
use Rattle.field.specs.Words.{Bytes}
use Rattle.meaning.specs.Book.{Book}
use Rattle.meaning.specs.Forced.{inconsistent}
use Rattle.rounds.specs.Records.{Record, explains, repairs}
use Rattle.rounds.specs.Rounds.{found, listing}
use Rattle.rounds.specs.Right.{Yields}
use Rattle.rounds.proofs.Digits.{inside_le, complement_lt}
use Rattle.rounds.proofs.Rounds.{found_is, listing_keeps, listing_le}
use Rattle.records.specs.Words.{record_words, room, set_at, records_of, kind_of, set_of, words_of, faulty, fault}
use Rattle.records.proofs.Words.{records_none, records_next, words_length, length_records, set_back, faulty_kind, faulty_set, first_none, fault_is, no_fault}
use Rattle.book.specs.Walk.{book_of}
use Rattle.admit.specs.Admits.{work_words}
use Rattle.list.specs.Lists.{opens, lists, rounds}
use Rattle.list.proofs.Opening.{Opened, opens_fine, lists_goes, lists_open}
use Rattle.list.proofs.Lists.{Tells}

abbrev pub Small : ℕ → List Record → Type 0
Small n [] = Unit {0}
Small n (r ∷ rs) = (set_of r < 2 ^ n) × Small n rs

-- ---- records that are read
module _ (n : ℕ) (ws : List ℕ) (c : ℕ) (e : fault n ws c ≡ record_words * c) where
  set_small : (i : ℕ) → i < c → set_at ws i < 2 ^ n
  set_small i h =
      ltb-true (set_at ws i) (2 ^ n)
      (not-false (ltb (set_at ws i) (2 ^ n)) (sym (faulty_set n (2 * i + 1) (set_at ws i) (λ q. omega (arith, q))) ∙ no_fault n ws c e (2 * i + 1) (omega arith)))

small_from : (n : ℕ) (ws : List ℕ) (c : ℕ) → ((i : ℕ) → i < c → set_at ws i < 2 ^ n) → Small n (records_of ws c)
small_from n ws zero f = subst (Small n) (sym (records_none ws)) tt
small_from n ws (suc c) f =
    subst (Small n) (sym (records_next ws c)) (
      subst (λ (k : ℕ). k < 2 ^ n) (sym (set_back _ (set_at ws 0))) (f 0 (omega arith)),
      small_from n (drop record_words ws) c (λ i h. subst (λ (k : ℕ). k < 2 ^ n) (sym (later i)) (f (suc i) (omega arith))),
    )
  where
    later : (i : ℕ) → set_at (drop record_words ws) i ≡ set_at ws (suc i)
    later i = get_or-drop 2 ws (2 * i + 1) 0 ∙ ap (λ (j : ℕ). get_or ws j 0) (let z : 2 + (2 * i + 1) ≡ 2 * suc i + 1 = omega arith in z)

pub small_read : (n : ℕ) (ws : List ℕ) (c : ℕ) → fault n ws c ≡ record_words * c → Small n (records_of ws c)
small_read n ws c e = small_from n ws c (set_small n ws c e)

-- ---- records that are added
small_snoc : (n : ℕ) (rs : List Record) (r : Record) → Small n rs → set_of r < 2 ^ n → Small n (rs ++ (r ∷ []))
small_snoc n [] r S h = (h, tt)
small_snoc n (q ∷ rs) r S h = (S.0, small_snoc n rs r S.1 h)

small_found : (n : ℕ) (bad : ℕ → Bool) (s : ℕ) → s < 2 ^ n → set_of (found n bad s) < 2 ^ n
unfolding set_of
small_found n bad s h = go (found n bad s) (found_is n bad s)
  where
    go : (r : Record) → Yields n bad s r → set_of r < 2 ^ n
    go (explains e) Y = omega (arith, h, inside_le e s Y.1.inside)
    go (repairs r) Y = omega (arith, Y.1, complement_lt n s)

pub small_listing : (n : ℕ) (bad : ℕ → Bool) (k : ℕ) (rs : List Record) → Small n rs → Small n (listing n bad k rs)
small_listing n bad k rs S = listing_keeps n bad (Small n) (λ xs s W P. small_snoc n xs (found n bad s) P (small_found n bad s W.0)) k rs S

-- ---- no fault among them
kind_fine : (r : Record) → (not (eqb (kind_of r) 1) && not (eqb (kind_of r) 2)) ≡ false
unfolding kind_of
kind_fine (explains e) = refl
kind_fine (repairs r) = refl

two_on : (n i w : ℕ) → faulty n (suc (suc i)) w ≡ faulty n i w
unfolding faulty
two_on n i w = ap (λ (k : ℕ). cond (eqb k 0) (not (eqb w 1) && not (eqb w 2)) (not (ltb w (2 ^ n)))) (let z : suc (suc i) % 2 ≡ i % 2 = omega arith in z)

fine : (n : ℕ) (rs : List Record) (t : List ℕ) → Small n rs → (i : ℕ) → i < record_words * length rs → faulty n i (get_or (words_of rs ++ t) i 0) ≡ false
unfolding words_of
fine n [] t S i h = absurd (omega arith)
fine n (r ∷ rs) t S zero h = faulty_kind n 0 (kind_of r) (omega arith) ∙ kind_fine r
fine n (r ∷ rs) t S (suc zero) h = faulty_set n 1 (set_of r) (λ q. omega (arith, q)) ∙ ap not (lt-ltb (set_of r) (2 ^ n) S.0)
fine n (r ∷ rs) t S (suc (suc i)) h = two_on n i (get_or (words_of rs ++ t) i 0) ∙ fine n rs t S.1 i (omega arith)

fine_fault : (n : ℕ) (rs : List Record) (ws : List ℕ) → Small n rs → fault n (over (words_of rs) ws) (length rs) ≡ record_words * length rs
fine_fault n rs ws S =
    fault_is n (over (words_of rs) ws) (length rs)
    ∙ first_none (λ i. faulty n i (get_or (over (words_of rs) ws) i 0)) (record_words * length rs) 0 (λ m l h. fine n rs (drop (length (words_of rs)) ws) S m (omega arith)) ∙ omega arith

pub small_rounds : (s ws : List ℕ) (c : ℕ) → Opened s ws c → (k : ℕ) → Small (book_of s).groups (rounds (book_of s) k ws c)
unfolding rounds
small_rounds s ws c O k = let b = book_of s in small_listing b.groups (inconsistent b) k (records_of ws c) (small_read b.groups ws c O.right)

pub still_open : (s ws : List ℕ) (c : ℕ) → Opened s ws c → (k : ℕ) (us : List ℕ) → let rs = rounds (book_of s) k ws c in length rs ≤ room us
    → opens s (over (words_of rs) us) (length rs) ≡ answered (book_of s)
still_open s ws c O k us h =
    let b = book_of s in
    let rs = rounds b k ws c in
    let f : fault b.groups (over (words_of rs) us) (length rs) ≡ record_words * length rs = fine_fault b.groups rs us (small_rounds s ws c O k) in
    opens_fine s (over (words_of rs) us) (length rs) b O.is.read
    (omega (arith, h, length_over (words_of rs) us (omega (arith, h, words_length rs)))) b.groups (fault b.groups (over (words_of rs) us) (length rs)) refl refl (omega (arith, f))

pub still_lists : (s ws : List ℕ) (c : ℕ) → Opened s ws c → (k : ℕ) (us : List ℕ) (words : ℕ) → let rs = rounds (book_of s) k ws c in length rs ≤ room us → work_words ≤ words
    → lists s (over (words_of rs) us) (length rs) words ≡ answered (book_of s)
still_lists s ws c O k us words h l =
    let rs = rounds (book_of s) k ws c in
    lists_goes s (over (words_of rs) us) (length rs) words (book_of s) (still_open s ws c O k us h) l

pub again : (s : List ℕ) → Bytes s → (ws : List ℕ) (c words k : ℕ) (ws' : List ℕ) (n m : ℕ) → k ≤ room ws - c → Tells (lists s ws c words) k ws c ws' n m
    → (words' : ℕ) → work_words ≤ words' → lists s ws' n words' ≡ answered (book_of s)
unfolding rounds
again s bytes ws c words k ws' n m h T words' l =
    ap₂ (λ (u : List ℕ) (i : ℕ). lists s u i words') (T.stands ∙ ap (λ (b : Book). over (words_of (rounds b k ws c)) ws) (sym o.1)) (T.number ∙ ap (λ (b : Book). length (rounds b k ws c)) (sym o.1))
    ∙ still_lists s ws c o.0 k ws words' (omega (arith, h, o.0.few, length_records ws c, listing_le (book_of s).groups (inconsistent (book_of s)) k (records_of ws c))) l
  where
    o : Opened s ws c × (book_of s ≡ T.book)
    o = lists_open s ws c words T.book bytes T.is
