-- What stands before rounds and listings: the refusals in their order.
--   before_end, at_end     whether that place is a fault, by the whole records before it
--   opens_no, opens_many, opens_fault, opens_fine      the book's refusals; 14 for the count, and for a word; none
--   read_as                what `check` accepts is read from the bytes
--   open_one               the contract of `open` determines its answer
--   Opened, opened         what an accepted call says
--   lists_no, lists_tight, lists_goes      what follows for a call: the same refusals, 11, none
--   lists_open             where a call goes on, the book is accepted, and the records are well formed and have room
-- Assumes nothing.
use Prim.Native.Nat.{ℕ, suc, ◌*◌, ◌/◌, ◌≤◌, ◌<◌}
use mathlib.Core.Path.{◌≡◌, refl, sym, ap, ◌∙◌, subst}
use mathlib.Core.List.{List, [], ◌∷◌}
use mathlib.Core.Bool.{Bool, cond}
use native.Mathlib.Omega.{arith}
use lib.Dec.{ltb}
use lib.ListN.{length, take}
use lib.Seq.{length-take-le}
use borrow.Author.Tests.{lt-ltb, le-ltb, ltb-false}
use Rattle.std.specs.Prelude.{Result, IfOk}
use Rattle.std.specs.Borrow.{Bor}
use Rattle.answer.specs.Answer.{Answer, answered, refused, and_then, ◌⇒◌, first}
use Rattle.answer.specs.Refusals.{answer_is}
use Rattle.answer.specs.declared.Refusal.{Refusal}
use Rattle.answer.proofs.Answers.{then_by, then_not, then_is, unless_none, unless_some, unless_is}
use Rattle.answer.proofs.Tests.{first_clear}
use Rattle.field.specs.Words.{Bytes}
use Rattle.meaning.specs.Book.{Book}
use Rattle.records.specs.Words.{record_words, room, fault}
use Rattle.records.proofs.Words.{fault_le}
use Rattle.book.specs.Reading.{reading}
use Rattle.book.specs.Walk.{taken, book_of, IsBook}
use Rattle.book.specs.Clauses.{meant}
use Rattle.book.specs.declared.accepted.Book.{Book as Found}
use Rattle.book.proofs.Walk.{is_book}
use Rattle.admit.specs.Admits.{work_words}
use Rattle.admit.proofs.Admits.{admitted_one}
use Rattle.list.specs.Lists.{opens, lists}

-- whole records stand before the place: fewer than c where it lies within the first c, and not where it is their end
module _ (ws : List ℕ) (c at r : ℕ) (l : at ≤ length ws) (e : r ≡ room (take at ws)) where
  whole : r ≡ at / record_words
  whole = e ∙ ap (λ (k : ℕ). k / record_words) (length-take-le at ws l)

  pub before_end : r < c → at < record_words * c
  before_end h = omega (arith, whole, h)

  pub at_end : c ≤ r → record_words * c ≤ at
  at_end h = omega (arith, whole, h)

-- one test, and what it says
holds : (p q n : ℕ) → p < q → n ≡ first ((ltb p q ⇒ n) ∷ [])
unfolding first
holds p q n h = sym (ap (λ (b : Bool). cond b n 0) (lt-ltb p q h))

fails : (p q n : ℕ) → q ≤ p → first ((ltb p q ⇒ n) ∷ []) ≡ 0
unfolding first
fails p q n h = ap (λ (b : Bool). cond b n 0) (le-ltb p q h)

failed : (p q n : ℕ) → first ((ltb p q ⇒ suc n) ∷ []) ≡ 0 → q ≤ p
failed p q n e = ltb-false p q (first_clear ((ltb p q ⇒ suc n) ∷ []) e).0

-- ---- the refusals
module _ (s ws : List ℕ) (c : ℕ) where
  pub opens_no : (n at : ℕ) → reading s ≡ refused n at → opens s ws c ≡ refused n at
  unfolding opens
  opens_no n at e = then_not _ n at _ e

  module _ (b : Book) (is : reading s ≡ answered b) where
    pub opens_many : room ws < c → opens s ws c ≡ refused 14 (length ws)
    unfolding opens
    opens_many h = then_by _ b _ is ∙ unless_some 14 _ _ _ (holds (room ws) c 14 h) (λ e. omega arith)

    module _ (few : c ≤ room ws) (n at : ℕ) (en : n ≡ b.groups) (ea : at ≡ fault n ws c) where
      same : at ≡ fault b.groups ws c
      same = ea ∙ ap (λ (k : ℕ). fault k ws c) en

      pub opens_fault : at < record_words * c → opens s ws c ≡ refused 14 at
      unfolding opens
      opens_fault h =
          then_by _ b _ is ∙ unless_none _ _ _ (fails (room ws) c 14 few)
          ∙ unless_some 14 _ _ _ (holds (fault b.groups ws c) (record_words * c) 14 (omega (arith, same, h))) (λ e. omega arith)
          ∙ ap (refused 14) (sym same)

      pub opens_fine : record_words * c ≤ at → opens s ws c ≡ answered b
      unfolding opens
      opens_fine h =
          then_by _ b _ is ∙ unless_none _ _ _ (fails (room ws) c 14 few)
          ∙ unless_none _ _ _ (fails (fault b.groups ws c) (record_words * c) 14 (omega (arith, same, h)))

-- where `check` accepts
pub read_as : (b : Found) (s : List ℕ) → b.bytes.now ≡ s → reading s ≡ answered (meant b)
read_as b s same = subst (λ (t : List ℕ). reading t ≡ answered (meant b)) same (is_book b.bytes.now b.accepted).read

-- ---- the contract of `open` determines its answer
pub open_one : (a : Answer Book) (bytes : Bor (List ℕ)) (r r' : Result Found Refusal) → answer_is meant r ≡ a → IfOk r (λ b. b.bytes ≡ bytes)
    → answer_is meant r' ≡ a → IfOk r' (λ b. b.bytes ≡ bytes) → r ≡ r'
open_one a bytes r r' p e q d = admitted_one bytes r r' e d (p ∙ sym q)

-- ---- what an accepted call says
pub record Opened (s ws : List ℕ) (c : ℕ) : Type 0 where
  pub is : IsBook s
  pub has : opens s ws c ≡ answered (book_of s)
  pub few : c ≤ room ws
  pub right : fault (book_of s).groups ws c ≡ record_words * c

pub opened : (s ws : List ℕ) (c : ℕ) (b : Book) → Bytes s → opens s ws c ≡ answered b → Opened s ws c × (book_of s ≡ b)
unfolding opens book_of taken
opened s ws c b bytes e =
    let t = then_is (reading s) _ b e in
    let u = unless_is _ _ _ b t.2 in
    let w = unless_is _ _ (answered t.0) b u.1 in
    let r : reading s ≡ answered b = t.1 ∙ w.1 in
    let q : t.0 ≡ b = ap taken w.1 in
    let k : taken (reading s) ≡ b = ap taken r in
    let f : fault b.groups ws c ≡ record_words * c = omega (arith, fault_le b.groups ws c, ap (λ (z : Book). fault z.groups ws c) q, failed (fault t.0.groups ws c) (record_words * c) 13 w.0) in (
      record {
        is = record { bytes = bytes; read = r ∙ ap answered (sym k) };
        has = e ∙ ap answered (sym k);
        few = failed (room ws) c 13 u.0;
        right = ap (λ (z : Book). fault z.groups ws c) k ∙ f;
      },
      k,
    )

-- ---- a call
module _ (s ws : List ℕ) (c words : ℕ) where
  pub lists_no : (n at : ℕ) → opens s ws c ≡ refused n at → lists s ws c words ≡ refused n at
  unfolding lists
  lists_no n at e = then_not _ n at _ e

  module _ (b : Book) (has : opens s ws c ≡ answered b) where
    pub lists_tight : words < work_words → lists s ws c words ≡ refused 11 0
    unfolding lists
    lists_tight h = then_by _ b _ has ∙ unless_some 11 _ _ _ (holds words work_words 11 h) (λ e. omega arith)

    pub lists_goes : work_words ≤ words → lists s ws c words ≡ answered b
    unfolding lists
    lists_goes h = then_by _ b _ has ∙ unless_none _ _ _ (fails words work_words 11 h)

  pub lists_open : (b : Book) → Bytes s → lists s ws c words ≡ answered b → Opened s ws c × (book_of s ≡ b)
  unfolding lists
  lists_open b bytes e =
      let t = then_is (opens s ws c) _ b e in
      let u = unless_is _ _ (answered t.0) b t.2 in
      opened s ws c b bytes (t.1 ∙ u.1)
