-- What a round and a listing answer and leave, by what the bytes and the words are.
--   told_no, told_listed      a refusal; the answer of the rounds
--   whole_room                a listing's rounds: as many as records still fit
--   listed_one, list_one      the answer determines the result; the contract of `round` and of `list` determines the answer and both spaces
--   refuses, refuses_by       a call refuses exactly where the table says so, by that number and place; the same by the refusal
--   refusal_keeps             and then leaves both spaces as they came
--   Tells, tells              any other answer: the count is the number of records, they are read from the words, and complete is said exactly where no seed remains
--   round_adds, round_ended, round_full      a round writes the one record that the rule names; none where no seed or no room remains
--   rounds_on                 rounds after rounds are as many in one go
--   rounds_go_on, go_on       a listing stopped and continued in a larger space is the listing in one go: its records, its answer and both spaces
-- Assumes nothing.
use Prim.Native.Nat.{ℕ, ◌+◌, ◌-◌, ◌/◌, ◌≤◌, ◌<◌, min}
use mathlib.Core.Path.{◌≡◌, sym, ap, ap₂, ◌∙◌, subst}
use mathlib.Core.Logic.{◌↔◌, ◌⊎◌, inl, inr}
use mathlib.Core.List.{List, [], ◌∷◌, ◌++◌}
use mathlib.Core.Bool.{Bool, cond}
use mathlib.Core.Option.{some, none}
use native.Mathlib.Omega.{arith}
use Rattle.std.specs.Prelude.{Result, Ok, Err}
use lib.ListN.{length, drop, length-append}
use Rattle.answer.specs.Answer.{Answer, answered, refused, and_then}
use Rattle.answer.specs.Refusals.{number_of, refusal_is}
use Rattle.answer.specs.declared.Refusal.{Refusal}
use Rattle.answer.specs.Space.{over}
use Rattle.answer.proofs.Answers.{then_by, then_not, then_is}
use Rattle.answer.proofs.Refusals.{answer_one}
use Rattle.answer.proofs.Spaces.{laid_refused, laid_answered, length_over, over_over}
use Rattle.meaning.specs.Book.{Book}
use Rattle.meaning.specs.Forced.{inconsistent}
use Rattle.rounds.specs.Records.{Record}
use Rattle.rounds.specs.Rounds.{seed, found, listing, complete}
use Rattle.rounds.proofs.Rounds.{listing_zero, listing_next, listing_still, listing_more, listing_extends, listing_le, listing_full}
use Rattle.records.specs.Words.{record_words, room, records_of, words_of}
use Rattle.records.proofs.Words.{words_length, length_records, records_read}
use Rattle.admit.specs.Admits.{zeros}
use Rattle.list.specs.Lists.{told, listed_is, rounds, said, Rounding, Listing}
use Rattle.list.specs.declared.Listed.{Listed}
use Rattle.list.specs.declared.Listed.TheVariants as ListedV

-- ---- what is told and left
pub told_no : (a : Answer Book) (k : ℕ) (r : Refusal) (ws : List ℕ) (c : ℕ) (work : List ℕ) → a ≡ refusal_is r → Listing a k (Err r) ws c work ws work
told_no a k r ws c work e =
    (sym (then_not a _ _ _ e), sym (laid_refused _ ws _ _ (then_not a _ _ _ e)), sym (laid_refused _ work _ _ (then_not a _ _ _ e)))

-- after m rounds at most, and that is k
pub told_listed : (a : Answer Book) (k m : ℕ) (b : Book) (r : Listed) (ws : List ℕ) (c : ℕ) (work ws' work' : List ℕ) → a ≡ answered b → m ≡ k
    → Rounding b m r ws c ws' → work' ≡ over zeros work → Listing a k (Ok r) ws c work ws' work'
told_listed a k m b r ws c work ws' work' e q t w = (
  ap answered (t.0 ∙ ap (λ (j : ℕ). said b (rounds b j ws c)) q) ∙ sym (then_by a b _ e),
  t.1 ∙ ap (λ (j : ℕ). over (words_of (rounds b j ws c)) ws) q ∙ sym (laid_answered _ ws _ (then_by a b _ e)),
  w ∙ sym (laid_answered _ work zeros (then_by a b _ e)),
)

pub whole_room : (a : Answer Book) (n k : ℕ) (r : Result Listed Refusal) (ws : List ℕ) (c : ℕ) (work ws' work' : List ℕ) → n ≡ k → Listing a (min n (k - c)) r ws c work ws' work'
    → Listing a (k - c) r ws c work ws' work'
whole_room a n k r ws c work ws' work' e L = subst (λ (j : ℕ). Listing a j r ws c work ws' work') (let z : min n (k - c) ≡ k - c = omega (arith, e) in z) L

-- ---- the contract determines everything
told_one : (a b : Listed) → told a ≡ told b → a ≡ b
told_one (ListedV.Complete n) (ListedV.Complete m) e = cc
told_one (ListedV.Complete n) (ListedV.Stopped m) e = let z : ◌≡◌ {A = ℕ} 1 0 = cc in absurd (omega arith)
told_one (ListedV.Stopped n) (ListedV.Complete m) e = let z : ◌≡◌ {A = ℕ} 0 1 = cc in absurd (omega arith)
told_one (ListedV.Stopped n) (ListedV.Stopped m) e = cc

pub listed_one : (a b : Result Listed Refusal) → listed_is a ≡ listed_is b → a ≡ b
listed_one = answer_one told told_one

pub list_one : (a : Answer Book) (k : ℕ) (r r' : Result Listed Refusal) (ws : List ℕ) (c : ℕ) (work v v' w w' : List ℕ) → Listing a k r ws c work v w → Listing a k r' ws c work v' w'
    → (r ≡ r') × (v ≡ v') × (w ≡ w')
list_one a k r r' ws c work v v' w w' p q = (listed_one r r' (p.0 ∙ sym q.0), p.1 ∙ sym q.1, p.2 ∙ sym q.2)

-- ---- what an answer says
refused_is : {A : Type 0} (a : Answer Book) (f : Book → A) (n at : ℕ) → refused n at ≡ and_then a (λ b. answered (f b)) → a ≡ refused n at
unfolding and_then
refused_is (answered b) f n at e = let z : ◌≡◌ {A = ℕ} 0 1 = cc in absurd (omega arith)
refused_is (refused m p) f n at e = cc

-- the call on the words ws, with c records there, of at most k rounds
module _ (a : Answer Book) (k : ℕ) (r : Result Listed Refusal) (ws : List ℕ) (c : ℕ) (work ws' work' : List ℕ) (L : Listing a k r ws c work ws' work') where
  pub refuses : (n at : ℕ) → (listed_is r ≡ refused n at) ↔ (a ≡ refused n at)
  refuses n at = (
    (λ e. refused_is a (λ b. said b (rounds b k ws c)) n at (sym e ∙ L.0)),
    (λ e. L.0 ∙ then_not a n at _ e),
  )

  pub refuses_by : (q : Refusal) → (r ≡ Err q) ↔ (a ≡ refusal_is q)
  refuses_by q = (
    (λ e. (refuses (number_of q.cause) q.place).0 (ap listed_is e)),
    (λ e. listed_one r (Err q) (L.0 ∙ then_not a _ _ _ e)),
  )

  pub refusal_keeps : (q : Refusal) → r ≡ Err q → (ws' ≡ ws) × (work' ≡ work)
  refusal_keeps q e =
      let d = (refuses_by q).0 e in
      (L.1 ∙ laid_refused _ ws _ _ (then_not a _ _ _ d), L.2 ∙ laid_refused _ work _ _ (then_not a _ _ _ d))

-- n is the count that is answered, and m is 1 for complete and 0 for stopped
pub record Tells (a : Answer Book) (k : ℕ) (ws : List ℕ) (c : ℕ) (ws' : List ℕ) (n m : ℕ) : Type 0 where
  pub book : Book
  pub is : a ≡ answered book
  pub records : records_of ws' n ≡ rounds book k ws c
  pub number : n ≡ length (rounds book k ws c)
  pub complete : m ≡ cond (complete book.groups (rounds book k ws c)) 1 0
  pub stands : ws' ≡ over (words_of (rounds book k ws c)) ws

pub tells : (a : Answer Book) (k : ℕ) (r : Result Listed Refusal) (ws : List ℕ) (c : ℕ) (work ws' work' : List ℕ) → Listing a k r ws c work ws' work'
    → (n m : ℕ) → listed_is r ≡ answered (n ∷ m ∷ []) → Tells a k ws c ws' n m
unfolding said
tells a k r ws c work ws' work' L n m e =
    let t = then_is a _ (n ∷ m ∷ []) (sym L.0 ∙ e) in
    let rs = rounds t.0 k ws c in
    let q : n ≡ length rs = first_same _ _ _ _ t.2 in
    let s : ws' ≡ over (words_of rs) ws = L.1 ∙ laid_answered _ ws _ (then_by a t.0 _ t.1) in
    record {
      book = t.0;
      is = t.1;
      records = ap₂ records_of s q ∙ records_read rs (drop (length (words_of rs)) ws);
      number = q;
      complete = second_same _ _ _ _ t.2;
      stands = s;
    }
  where
    first_same : (i j p q : ℕ) → answered (i ∷ j ∷ []) ≡ answered (p ∷ q ∷ []) → p ≡ i
    first_same i j p q z = cc

    second_same : (i j p q : ℕ) → answered (i ∷ j ∷ []) ≡ answered (p ∷ q ∷ []) → q ≡ j
    second_same i j p q z = cc

-- ---- one round
module _ (b : Book) (ws : List ℕ) (c : ℕ) where
  pub round_adds : (s : ℕ) → seed b.groups (records_of ws c) ≡ some s → c < room ws
      → rounds b (min 1 (room ws - c)) ws c ≡ records_of ws c ++ (found b.groups (inconsistent b) s ∷ [])
  unfolding rounds
  round_adds s e h =
      ap (λ (k : ℕ). listing b.groups (inconsistent b) k (records_of ws c)) (let z : min 1 (room ws - c) ≡ 1 = omega arith in z)
      ∙ listing_next b.groups (inconsistent b) 1 (records_of ws c) s (omega arith) e
      ∙ listing_zero b.groups (inconsistent b) (records_of ws c ++ (found b.groups (inconsistent b) s ∷ []))

  pub round_ended : seed b.groups (records_of ws c) ≡ none → rounds b (min 1 (room ws - c)) ws c ≡ records_of ws c
  unfolding rounds
  round_ended e = listing_still b.groups (inconsistent b) (min 1 (room ws - c)) (records_of ws c) e

  pub round_full : room ws ≤ c → rounds b (min 1 (room ws - c)) ws c ≡ records_of ws c
  unfolding rounds
  round_full h =
      ap (λ (k : ℕ). listing b.groups (inconsistent b) k (records_of ws c)) (let z : min 1 (room ws - c) ≡ 0 = omega arith in z)
      ∙ listing_zero b.groups (inconsistent b) (records_of ws c)

-- ---- going on
pub rounds_on : (b : Book) (j k : ℕ) (ws : List ℕ) (c : ℕ) (vs : List ℕ) (n : ℕ) → records_of vs n ≡ rounds b j ws c → rounds b k vs n ≡ rounds b (j + k) ws c
unfolding rounds
rounds_on b j k ws c vs n e = ap (listing b.groups (inconsistent b) k) e ∙ sym (listing_more b.groups (inconsistent b) j k (records_of ws c))

-- of the words ws a listing wrote records; they stand, as vs, in the front of the larger space us, in which the same c records stood
module _ (b : Book) (ws us : List ℕ) (c : ℕ) (few : c ≤ room ws) (larger : room ws ≤ room us) (same : records_of us c ≡ records_of ws c) (vs : List ℕ) (n : ℕ)
    (counts : n ≡ length (rounds b (room ws - c) ws c)) (copied : vs ≡ over (words_of (rounds b (room ws - c) ws c)) us) where
  abbrev bad : ℕ → Bool
  bad = inconsistent b

  abbrev first : List Record
  first = rounds b (room ws - c) ws c

  short : n ≤ room ws
  unfolding rounds
  short = omega (arith, counts, listing_le b.groups bad (room ws - c) (records_of ws c), length_records ws c, few)

  read : records_of vs n ≡ first
  read = ap₂ records_of copied counts ∙ records_read first (drop (length (words_of first)) us)

  long : length vs ≡ length us
  long = ap length copied ∙ length_over (words_of first) us (omega (arith, words_length first, counts, short, larger))

  pub rounds_go_on : rounds b (room vs - n) vs n ≡ rounds b (room us - c) us c
  unfolding rounds
  rounds_go_on = pick (listing_full b.groups bad (room ws - c) (records_of ws c))
    where
      one_go : rounds b (room us - c) us c ≡ listing b.groups bad (room us - room ws) first
      one_go =
          ap₂ (λ (k : ℕ) (rs : List Record). listing b.groups bad k rs) (let z : room us - c ≡ (room ws - c) + (room us - room ws) = omega arith in z) same
          ∙ listing_more b.groups bad (room ws - c) (room us - room ws) (records_of ws c)

      pick : (length first ≡ length (records_of ws c) + (room ws - c)) ⊎ (seed b.groups first ≡ none) → rounds b (room vs - n) vs n ≡ rounds b (room us - c) us c
      pick (inl e) =
          ap₂ (λ (k : ℕ) (rs : List Record). listing b.groups bad k rs) (let z : room vs - n ≡ room us - room ws = omega (arith, e, counts, length_records ws c, few, ap (λ (k : ℕ). k / record_words) long) in z) read
          ∙ sym one_go
      pick (inr e) =
          ap (listing b.groups bad (room vs - n)) read ∙ listing_still b.groups bad (room vs - n) first e
          ∙ sym (one_go ∙ listing_still b.groups bad (room us - room ws) first e)

  all_written : length (words_of first) ≤ length (words_of (rounds b (room vs - n) vs n))
  unfolding rounds
  all_written =
      let t = listing_extends b.groups bad (room vs - n) (records_of vs n) in
      omega (arith, words_length first, words_length (rounds b (room vs - n) vs n), ap length t.1 ∙ length-append (records_of vs n) t.0, ap length read)

  pub go_on : (a d : Answer Book) (r q : Result Listed Refusal) (work vs' w us' w' : List ℕ) → a ≡ answered b → d ≡ answered b
      → Listing a (room vs - n) r vs n work vs' w → Listing d (room us - c) q us c work us' w' → (r ≡ q) × (vs' ≡ us') × (w ≡ w')
  go_on a d r q work vs' w us' w' e f L M = (
    listed_one r q (L.0 ∙ then_by a b _ e ∙ ap (λ (rs : List Record). answered (said b rs)) rounds_go_on ∙ sym (M.0 ∙ then_by d b _ f)),
    L.1 ∙ laid_answered _ vs _ (then_by a b _ e) ∙ ap (over (words_of (rounds b (room vs - n) vs n))) copied
        ∙ over_over (words_of (rounds b (room vs - n) vs n)) (words_of first) us all_written
        ∙ ap (λ (rs : List Record). over (words_of rs) us) rounds_go_on ∙ sym (M.1 ∙ laid_answered _ us _ (then_by d b _ f)),
    L.2 ∙ laid_answered _ work zeros (then_by a b _ e) ∙ sym (M.2 ∙ laid_answered _ work zeros (then_by d b _ f)),
  )
