-- What asking answers and leaves, by what the bytes and the choice are.
--   asks_no, asks_short, asks_tight, asks_goes      the refusals in their order, and none
--   told_no, told_goal        a refusal, and the lowest broken goal or none
--   asked_one, ask_one        the answer determines `Asked`; the contract of `ask` determines its answer and both spaces
--   says_consistent           the answer is consistent exactly if some assignment satisfies all clauses in force
--   says_goal                 a contradiction names the lowest broken goal
--   says_forced               the bytes written are the least closed set
-- Assumes nothing.
use Prim.Native.Nat.{ℕ, zero, suc, ◌≤◌, ◌<◌}
use mathlib.Core.Path.{◌≡◌, refl, sym, ap, ◌∙◌, subst}
use mathlib.Core.Logic.{◌↔◌, ◌≢◌}
use mathlib.Core.List.{List, [], ◌∷◌}
use mathlib.Core.Bool.{Bool, cond}
use native.Mathlib.Omega.{arith}
use lib.Dec.{ltb}
use Rattle.std.specs.Prelude.{Option, option_to_list}
use borrow.Author.Tests.{lt-ltb, le-ltb}
use Rattle.answer.specs.Answer.{Answer, answered, refused, first}
use Rattle.answer.specs.Space.{over}
use Rattle.answer.proofs.Answers.{then_by, then_not, then_is, unless_none, unless_some, unless_is}
use Rattle.answer.proofs.Spaces.{laid_refused, laid_answered}
use Rattle.field.specs.Words.{Bytes}
use Rattle.meaning.specs.Book.{Book}
use Rattle.meaning.specs.Consistent.{Consistent}
use Rattle.meaning.specs.Forced.{Least, marked, Lowest, forced_in, broken_in}
use Rattle.meaning.proofs.Forced.{forced_in_least}
use Rattle.meaning.proofs.Deciding.{consistent_in, lowest_is}
use Rattle.meaning.proofs.Marks.{Heads}
use Rattle.book.specs.Reading.{reading}
use Rattle.book.specs.Walk.{taken, book_of, IsBook}
use Rattle.book.proofs.Walk.{well_formed}
use Rattle.marks.specs.Fits.{named}
use Rattle.marks.proofs.Walks.{heads}
use Rattle.admit.specs.Admits.{admits, work_words, zeros}
use Rattle.admit.proofs.Admits.{admits_read}
use Rattle.ask.specs.Asks.{asked_is, goals, asks, Told, Asking}
use Rattle.ask.specs.declared.Asked.{Asked}
use Rattle.ask.specs.declared.Asked.TheVariants as AskedV

-- ---- the refusals
module _ (s : List ℕ) (x room words : ℕ) where
  pub asks_no : (n at : ℕ) → admits s x ≡ refused n at → asks s x room words ≡ refused n at
  unfolding asks
  asks_no n at e = then_not _ n at _ e

  module _ (b : Book) (H : admits s x ≡ answered b) where
    pub asks_short : room < b.variables → asks s x room words ≡ refused 11 0
    unfolding asks first
    asks_short h =
        then_by _ b _ H
        ∙ unless_some 11 _ 0 (answered b) (sym (ap (λ (a : Bool). cond a 11 (cond (ltb words work_words) 11 0)) (lt-ltb room b.variables h))) (λ e. omega arith)

    pub asks_tight : b.variables ≤ room → words < work_words → asks s x room words ≡ refused 11 0
    unfolding asks first
    asks_tight l h =
        then_by _ b _ H
        ∙ unless_some 11 _ 0 (answered b)
        (sym (ap (λ (a : Bool). cond a 11 (cond (ltb words work_words) 11 0)) (le-ltb room b.variables l) ∙ ap (λ (a : Bool). cond a 11 0) (lt-ltb words work_words h)))
        (λ e. omega arith)

    pub asks_goes : b.variables ≤ room → work_words ≤ words → asks s x room words ≡ answered b
    unfolding asks first
    asks_goes l h =
        then_by _ b _ H
        ∙ unless_none _ 0 (answered b)
        (ap (λ (a : Bool). cond a 11 (cond (ltb words work_words) 11 0)) (le-ltb room b.variables l) ∙ ap (λ (a : Bool). cond a 11 0) (le-ltb words work_words h))

-- ---- what is told and left
pub told_no : (a : Answer Book) (x n at : ℕ) (out work : List ℕ) → a ≡ refused n at → Told a x (refused n at) out work out work
told_no a x n at out work e =
    (sym (then_not a n at _ e), sym (laid_refused _ out n at (then_not a n at _ e)), sym (laid_refused _ work n at (then_not a n at _ e)))

goals_named : (n : ℕ) → option_to_list (named n) ≡ goals n
unfolding goals
goals_named zero = refl
goals_named (suc n) = refl

pub told_goal : (a : Answer Book) (x : ℕ) (b : Book) (out work out' work' : List ℕ) (r : Option ℕ) → a ≡ answered b → r ≡ named (broken_in b x)
    → out' ≡ over (forced_in b x) out → work' ≡ over zeros work → Told a x (answered (option_to_list r)) out work out' work'
told_goal a x b out work out' work' r e is o w = (
  ap answered (ap option_to_list is ∙ goals_named (broken_in b x)) ∙ sym (then_by a b _ e),
  o ∙ sym (laid_answered _ out (forced_in b x) (then_by a b _ e)),
  w ∙ sym (laid_answered _ work zeros (then_by a b _ e)),
)

goals_none : (n : ℕ) → n ≡ 0 → goals n ≡ []
unfolding goals
goals_none zero e = refl
goals_none (suc n) e = absurd (omega arith)

-- ---- the contract determines everything
pub asked_one : (a b : Asked) → asked_is a ≡ asked_is b → a ≡ b
unfolding asked_is
asked_one AskedV.Consistent AskedV.Consistent e = refl
asked_one AskedV.Consistent (AskedV.Contradiction m) e = let z : ◌≡◌ {A = ℕ} 0 1 = cc in absurd (omega arith)
asked_one AskedV.Consistent (AskedV.Refused m p) e = let z : ◌≡◌ {A = ℕ} 0 1 = cc in absurd (omega arith)
asked_one (AskedV.Contradiction n) AskedV.Consistent e = let z : ◌≡◌ {A = ℕ} 0 1 = cc in absurd (omega arith)
asked_one (AskedV.Contradiction n) (AskedV.Contradiction m) e = cc
asked_one (AskedV.Contradiction n) (AskedV.Refused m p) e = let z : ◌≡◌ {A = ℕ} 0 1 = cc in absurd (omega arith)
asked_one (AskedV.Refused n q) AskedV.Consistent e = let z : ◌≡◌ {A = ℕ} 0 1 = cc in absurd (omega arith)
asked_one (AskedV.Refused n q) (AskedV.Contradiction m) e = let z : ◌≡◌ {A = ℕ} 0 1 = cc in absurd (omega arith)
asked_one (AskedV.Refused n q) (AskedV.Refused m p) e = cc

pub ask_one : (a : Answer Book) (x : ℕ) (r r' : Asked) (out work o o' w w' : List ℕ) → Asking a x r out work o w → Asking a x r' out work o' w' → (r ≡ r') × (o ≡ o') × (w ≡ w')
ask_one a x r r' out work o o' w w' p q = (asked_one r r' (p.0 ∙ sym q.0), p.1 ∙ sym q.1, p.2 ∙ sym q.2)

-- ---- what the answers mean
none_goals : (n : ℕ) → answered [] ≡ answered (goals n) → n ≡ 0
unfolding goals
none_goals zero q = refl
none_goals (suc n) q = let z : ◌≡◌ {A = ℕ} 0 1 = cc in absurd (omega arith)

some_goals : (n m : ℕ) → answered (n ∷ []) ≡ answered (goals m) → (m ≡ n) × (m ≢ 0)
unfolding goals
some_goals n zero q = let z : ◌≡◌ {A = ℕ} 0 1 = cc in absurd (omega arith)
some_goals n (suc m) q = (cc, λ e. omega arith)

-- what was asked is an accepted book
asks_book : (s : List ℕ) (x room words : ℕ) (b : Book) → Bytes s → asks s x room words ≡ answered b → IsBook s × (book_of s ≡ b)
unfolding asks book_of taken
asks_book s x room words b bytes e =
    let t = then_is (admits s x) _ b e in
    let u = unless_is _ _ (answered t.0) b t.2 in
    let r : reading s ≡ answered b = admits_read s x b (t.1 ∙ u.1) in
    (record { bytes = bytes; read = r ∙ ap answered (sym (ap taken r)) }, ap taken r)

asks_heads : (s : List ℕ) (x room words : ℕ) (b : Book) → Bytes s → asks s x room words ≡ answered b → Heads b.variables b.clauses
asks_heads s x room words b bytes e =
    let k = asks_book s x room words b bytes e in
    subst (λ (z : Book). Heads z.variables z.clauses) k.1 (heads (book_of s) (well_formed s k.0))

module _ (s : List ℕ) (x room words : ℕ) (b : Book) (bytes : Bytes s) (e : asks s x room words ≡ answered b)
    (r : Asked) (out work out' work' : List ℕ) (A : Asking (asks s x room words) x r out work out' work') where
  told_is : asked_is r ≡ answered (goals (broken_in b x))
  told_is = A.0 ∙ then_by _ b _ e

  pub says_consistent : (r ≡ AskedV.Consistent) ↔ Consistent b.clauses x
  unfolding asked_is
  says_consistent = (there, back)
    where
      there : r ≡ AskedV.Consistent → Consistent b.clauses x
      there q = (consistent_in b x (asks_heads s x room words b bytes e)).1 (none_goals _ (sym (ap asked_is q) ∙ told_is))

      back : Consistent b.clauses x → r ≡ AskedV.Consistent
      back C = asked_one r AskedV.Consistent (told_is ∙ ap answered (goals_none _ ((consistent_in b x (asks_heads s x room words b bytes e)).0 C)))

  pub says_goal : (n : ℕ) → r ≡ AskedV.Contradiction n → Lowest x (forced_in b x) 1 b.clauses n
  unfolding asked_is broken_in
  says_goal n q =
      let k = some_goals n _ (sym (ap asked_is q) ∙ told_is) in
      subst (Lowest x (forced_in b x) 1 b.clauses) k.0 (lowest_is x (forced_in b x) 1 b.clauses k.1)

  pub says_forced : Least b.clauses x (marked (forced_in b x)) × (out' ≡ over (forced_in b x) out)
  says_forced = (forced_in_least b x (asks_heads s x room words b bytes e), A.1 ∙ laid_answered _ out (forced_in b x) (then_by _ b _ e))
