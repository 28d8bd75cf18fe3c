-- What explaining answers and leaves, by what the bytes and the choice are.
--   explains_no, explains_tight, explains_goes      the refusals in their order, and none
--   told_no, told_found       a refusal, and what is found
--   explain_one               the contract of `explain` determines its answer and the space
--   says_consistent           the answer is consistent exactly if some assignment satisfies all clauses in force
--   says_smallest             an explanation that is told is the smallest number among the inconsistent choices within the choice
--   says_least                ... no smaller choice within the choice is inconsistent, by what assignments satisfy
--   says_explanation          ... it is an explanation of the book, and lies within the choice
-- Assumes nothing.
use Prim.Native.Nat.{ℕ, ◌-◌, ◌^◌, ◌≤◌, ◌<◌}
use mathlib.Core.Path.{◌≡◌, refl, sym, ap, ◌∙◌, subst}
use mathlib.Core.Logic.{◌↔◌, ◌⊎◌, inl, inr}
use mathlib.Core.List.{List, [], ◌∷◌}
use mathlib.Core.Bool.{Bool, true, false, cond}
use native.Mathlib.Omega.{arith}
use lib.Pow.{pow_pos}
use borrow.Author.Tests.{lt-ltb, le-ltb}
use Rattle.answer.specs.Answer.{Answer, answered, refused, first}
use Rattle.answer.specs.Refusals.{refusal_is}
use Rattle.answer.specs.declared.Refusal.{Refusal}
use Rattle.answer.specs.Space.{over}
use Rattle.answer.proofs.Refusals.{answer_one}
use Rattle.std.specs.Prelude.{Option, None, Some, Result, Ok, Err}
use Rattle.answer.proofs.Answers.{then_by, then_not, then_is, unless_none, unless_some, unless_is}
use Rattle.answer.proofs.Spaces.{laid_refused, laid_answered}
use Rattle.answer.proofs.Tests.{holds_or, clash}
use Rattle.field.specs.Words.{Bytes}
use Rattle.meaning.specs.Book.{Book}
use Rattle.meaning.specs.Choice.{digit, Inside}
use Rattle.meaning.specs.Consistent.{Consistent}
use Rattle.meaning.specs.Explanation.{ExplanationOf}
use Rattle.meaning.specs.Forced.{inconsistent}
use Rattle.meaning.proofs.Explanations.{fine_exactly}
use Rattle.rounds.specs.Rounds.{smallest, Smallest}
use Rattle.rounds.proofs.Digits.{inside_trans, less_inside, pow_le, inside_le}
use Rattle.rounds.proofs.Insertion.{smallest_found}
use Rattle.book.specs.Bytes.{most_groups}
use Rattle.book.specs.Reading.{reading}
use Rattle.book.specs.Walk.{taken, book_of, IsBook}
use Rattle.meaning.proofs.Marks.{Heads}
use Rattle.book.proofs.Walk.{well_formed}
use Rattle.marks.proofs.Walks.{heads}
use Rattle.admit.specs.Admits.{admits, work_words, zeros}
use Rattle.admit.proofs.Admits.{admits_read, choice_fits}
use Rattle.explain.specs.Explains.{explained, within_is, explained_is, explains, Explaining}

-- ---- the refusals
module _ (s : List ℕ) (x words : ℕ) where
  pub explains_no : (n at : ℕ) → admits s x ≡ refused n at → explains s x words ≡ refused n at
  unfolding explains
  explains_no n at e = then_not _ n at _ e

  module _ (b : Book) (has : admits s x ≡ answered b) where
    pub explains_tight : words < work_words → explains s x words ≡ refused 11 0
    unfolding explains first
    explains_tight h =
        then_by _ b _ has
        ∙ unless_some 11 _ 0 (answered b) (sym (ap (λ (a : Bool). cond a 11 0) (lt-ltb words work_words h))) (λ e. omega arith)

    pub explains_goes : work_words ≤ words → explains s x words ≡ answered b
    unfolding explains first
    explains_goes h = then_by _ b _ has ∙ unless_none _ 0 (answered b) (ap (λ (a : Bool). cond a 11 0) (le-ltb words work_words h))

-- ---- what is told and left
pub told_no : (a : Answer Book) (x : ℕ) (r : Refusal) (work : List ℕ) → a ≡ refusal_is r → Explaining a x (Err r) work work
told_no a x r work e = (sym (then_not a _ _ _ e), sym (laid_refused _ work _ _ (then_not a _ _ _ e)))

pub told_found : (a : Answer Book) (x : ℕ) (b : Book) (work work' : List ℕ) → a ≡ answered b → (r : Option ℕ) → within_is r ≡ explained b x → work' ≡ over zeros work
    → Explaining a x (Ok r) work work'
told_found a x b work work' e r is w = (sym (then_by a b _ e ∙ ap answered (sym is)), w ∙ sym (laid_answered _ work zeros (then_by a b _ e)))

-- ---- the contract determines everything
within_one : (a b : Option ℕ) → within_is a ≡ within_is b → a ≡ b
within_one None None e = refl
within_one None (Some m) e = let z : ◌≡◌ {A = ℕ} 0 1 = cc in absurd (omega arith)
within_one (Some n) None e = let z : ◌≡◌ {A = ℕ} 0 1 = cc in absurd (omega arith)
within_one (Some n) (Some m) e = cc

pub explained_one : (a b : Result (Option ℕ) Refusal) → explained_is a ≡ explained_is b → a ≡ b
explained_one = answer_one within_is within_one

pub explain_one : (a : Answer Book) (x : ℕ) (r r' : Result (Option ℕ) Refusal) (work w w' : List ℕ) → Explaining a x r work w → Explaining a x r' work w' → (r ≡ r') × (w ≡ w')
explain_one a x r r' work w w' p q = (explained_one r r' (p.0 ∙ sym q.0), p.1 ∙ sym q.1)

-- ---- what the answers mean
by_test : (b : Book) (x : ℕ) (t : Bool) → inconsistent b x ≡ t → explained b x ≡ cond t (smallest (inconsistent b) x ∷ []) []
unfolding explained
by_test b x t e = ap (λ (t : Bool). cond t (smallest (inconsistent b) x ∷ []) []) e

-- what was explained is an accepted book
explains_book : (s : List ℕ) (x words : ℕ) (b : Book) → Bytes s → explains s x words ≡ answered b → IsBook s × (book_of s ≡ b) × (admits s x ≡ answered b)
unfolding explains book_of taken
explains_book s x words b bytes e =
    let t = then_is (admits s x) _ b e in
    let u = unless_is _ _ (answered t.0) b t.2 in
    let r : reading s ≡ answered b = admits_read s x b (t.1 ∙ u.1) in
    (record { bytes = bytes; read = r ∙ ap answered (sym (ap taken r)) }, ap taken r, t.1 ∙ u.1)

module _ (s : List ℕ) (x words : ℕ) (b : Book) (bytes : Bytes s) (e : explains s x words ≡ answered b)
    (r : Result (Option ℕ) Refusal) (work work' : List ℕ) (A : Explaining (explains s x words) x r work work') where
  told_is : explained_is r ≡ answered (explained b x)
  told_is = A.0 ∙ then_by _ b _ e

  own_heads : Heads b.variables b.clauses
  own_heads =
      let k = explains_book s x words b bytes e in
      subst (λ (z : Book). Heads z.variables z.clauses) k.1 (heads (book_of s) (well_formed s k.0))

  pub says_consistent : (r ≡ Ok None) ↔ Consistent b.clauses x
  says_consistent = (there, back)
    where
      none_told : (t : Bool) → answered [] ≡ answered (cond t (smallest (inconsistent b) x ∷ []) []) → t ≡ false
      none_told true q = let z : ◌≡◌ {A = ℕ} 0 1 = cc in absurd (omega arith)
      none_told false q = refl

      there : r ≡ Ok None → Consistent b.clauses x
      there q = (fine_exactly b own_heads x).1 (none_told (inconsistent b x) (sym (ap explained_is q) ∙ told_is ∙ ap answered (by_test b x (inconsistent b x) refl)))

      back : Consistent b.clauses x → r ≡ Ok None
      back C = explained_one r (Ok None) (told_is ∙ ap answered (by_test b x false ((fine_exactly b own_heads x).0 C)))

  pub says_smallest : (y : ℕ) → r ≡ Ok (Some y) → Smallest (inconsistent b) x y
  says_smallest y q =
      let k = some_told (inconsistent b x) (sym (ap explained_is q) ∙ told_is ∙ ap answered (by_test b x (inconsistent b x) refl)) in
      subst (Smallest (inconsistent b) x) k.1 (smallest_found (inconsistent b) x k.0)
    where
      some_told : (t : Bool) → answered (y ∷ []) ≡ answered (cond t (smallest (inconsistent b) x ∷ []) []) → (t ≡ true) × (smallest (inconsistent b) x ≡ y)
      some_told true q = (refl, cc)
      some_told false q = let z : ◌≡◌ {A = ℕ} 0 1 = cc in absurd (omega arith)

  pub says_least : (y : ℕ) → r ≡ Ok (Some y) → (z : ℕ) → Inside z x → (Consistent b.clauses z → ⊥) → y ≤ z
  says_least y q z i f = (says_smallest y q).lower z i (go (holds_or (inconsistent b z)))
    where
      go : (inconsistent b z ≡ true) ⊎ (inconsistent b z ≡ false) → inconsistent b z ≡ true
      go (inl t) = t
      go (inr e) = absurd (f ((fine_exactly b own_heads z).1 e))

  pub says_explanation : (y : ℕ) → x < 2 ^ most_groups → r ≡ Ok (Some y) → ExplanationOf b y × Inside y x
  says_explanation y h q = (
    record {
      within = omega (arith, inside_le y x S.inside, choice_fits s x b h (explains_book s x words b bytes e).2);
      broken = λ C. clash (inconsistent b y) S.broken ((fine_exactly b own_heads y).0 C);
      least = λ g d. (fine_exactly b own_heads (y - 2 ^ g)).1 (go g d (holds_or (inconsistent b (y - 2 ^ g))));
    },
    S.inside,
  )
    where
      S : Smallest (inconsistent b) x y
      S = says_smallest y q

      go : (g : ℕ) → digit y g ≡ 1 → (inconsistent b (y - 2 ^ g) ≡ true) ⊎ (inconsistent b (y - 2 ^ g) ≡ false) → inconsistent b (y - 2 ^ g) ≡ false
      go g d (inr e) = e
      go g d (inl e) = absurd (omega (arith, S.lower (y - 2 ^ g) (inside_trans (y - 2 ^ g) y x (less_inside y g d) S.inside) e, pow_le y g d, pow_pos g))
