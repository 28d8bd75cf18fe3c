-- What is printed, by what the calls answered.
--   refusal_text_lem           a book that is refused
--   no_refusal             a book that is accepted is listed, with enough working space
--   complete_few, stopped_few        the records have room
--   complete_text, stopped_text      what is printed of a listing
-- Assumes nothing.
use Prim.Native.Nat.{ℕ, ◌-◌, ◌≤◌}
use mathlib.Core.Path.{◌≡◌, refl, sym, ap, ◌∙◌}
use mathlib.Core.List.{List, [], ◌∷◌}
use mathlib.Core.Bool.{Bool, true, false, cond}
use native.Mathlib.Omega.{arith}
use Rattle.std.specs.Prelude.{Result, Ok, Err}
use Rattle.answer.specs.Answer.{Answer, answered, refused}
use Rattle.answer.specs.Refusals.{refusal_is}
use Rattle.answer.specs.declared.Refusal.{Refusal}
use Rattle.meaning.specs.Book.{Book}
use Rattle.meaning.specs.Forced.{inconsistent}
use Rattle.rounds.specs.Records.{Record}
use Rattle.rounds.proofs.Rounds.{listing_le}
use Rattle.records.specs.Words.{room, records_of, fault}
use Rattle.book.specs.Reading.{reading}
use Rattle.book.specs.Walk.{book_of, IsBook}
use Rattle.demands.specs.Demands.{listing_of, says_complete}
use Rattle.list.specs.Lists.{listed_is, lists, Listing}
use Rattle.list.specs.declared.Listed.{Listed}
use Rattle.list.specs.declared.Listed.TheVariants as ListedV
use Rattle.list.proofs.Opening.{opens_fine, lists_goes}
use Rattle.list.proofs.Lists.{refuses_by}
use Rattle.list.proofs.Demands.{Lists, listed}
use Rattle.report.specs.Text.{listing_text, refusal_text}
use Rattle.listing.specs.Prints.{answer_text, printed}

pub refusal_text_lem : (s : List ℕ) (k n at : ℕ) → reading s ≡ refused n at → refusal_text n at ≡ printed s k
unfolding answer_text
refusal_text_lem s k n at e = ap (λ (a : Answer Book). answer_text a k) (sym e)

one_is : (b : Bool) → ◌≡◌ {A = ℕ} 1 (cond b 1 0) → b ≡ true
one_is true e = refl
one_is false e = absurd (omega arith)

zero_is : (b : Bool) → ◌≡◌ {A = ℕ} 0 (cond b 1 0) → b ≡ false
zero_is true e = absurd (omega arith)
zero_is false e = refl

not_both : (a : Answer Book) (b : Book) (q : Refusal) → a ≡ answered b → a ≡ refusal_is q → ⊥
not_both a b q e f = let g : answered b ≡ refusal_is q = sym e ∙ f in let z : ◌≡◌ {A = ℕ} 0 1 = cc in absurd (omega arith)

-- the call of an accepted book: ws the words lent, and `words` the size of the working space
module _ (s : List ℕ) (is : IsBook s) (ws : List ℕ) (words : ℕ) (enough : 8192 ≤ words) (r : Result Listed Refusal) (work ws' work' : List ℕ)
    (L : Listing (lists s ws 0 words) (room ws - 0) r ws 0 work ws' work') where
  goes : lists s ws 0 words ≡ answered (book_of s)
  goes = lists_goes s ws 0 words (book_of s) (opens_fine s ws 0 (book_of s) is.read (omega arith) (book_of s).groups (fault (book_of s).groups ws 0) refl refl (omega arith)) enough

  pub no_refusal : (q : Refusal) → r ≡ Err q → ⊥
  no_refusal q e = not_both _ (book_of s) q goes ((refuses_by _ _ r ws 0 work ws' work' L q).0 e)

  told : (n m : ℕ) → listed_is r ≡ answered (n ∷ m ∷ []) → Lists s ws ws' n m
  told n m e = listed s is.bytes ws words r work ws' work' L n m e

  few : (n m : ℕ) → listed_is r ≡ answered (n ∷ m ∷ []) → n ≤ room ws
  few n m e = omega (arith, (told n m e).number, listing_le (book_of s).groups (inconsistent (book_of s)) (room ws) [])

  text : (n m g : ℕ) (done : Bool) → Lists s ws ws' n m → g ≡ (book_of s).groups → says_complete (book_of s) (room ws) ≡ done → listing_text g (records_of ws' n) done ≡ printed s (room ws)
  unfolding answer_text
  text n m g done T e d =
      ap (λ (x : ℕ). listing_text x (records_of ws' n) done) e
      ∙ ap (λ (rs : List Record). listing_text (book_of s).groups rs done) T.records
      ∙ ap (λ (b : Bool). listing_text (book_of s).groups (listing_of (book_of s) (room ws)) b) (sym d)
      ∙ ap (λ (a : Answer Book). answer_text a (room ws)) (sym is.read)

  module _ (n : ℕ) (e : r ≡ Ok (ListedV.Complete n)) where
    complete_is : listed_is r ≡ answered (n ∷ 1 ∷ [])
    complete_is = ap listed_is e

    pub complete_few : n ≤ room ws
    complete_few = few n 1 complete_is

    pub complete_text : (g : ℕ) → g ≡ (book_of s).groups → listing_text g (records_of ws' n) true ≡ printed s (room ws)
    complete_text g q = let T = told n 1 complete_is in text n 1 g true T q (one_is _ T.complete)

  module _ (n : ℕ) (e : r ≡ Ok (ListedV.Stopped n)) where
    stopped_is : listed_is r ≡ answered (n ∷ 0 ∷ [])
    stopped_is = ap listed_is e

    pub stopped_few : n ≤ room ws
    stopped_few = few n 0 stopped_is

    pub stopped_text : (g : ℕ) → g ≡ (book_of s).groups → listing_text g (records_of ws' n) false ≡ printed s (room ws)
    stopped_text g q = let T = told n 0 stopped_is in text n 0 g false T q (zero_is _ T.complete)
