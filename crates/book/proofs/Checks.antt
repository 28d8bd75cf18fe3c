-- What an answer of `check` says of the bytes.
--   check_long, check_bad, check_counted      what is answered, by the book's length, its header and its clauses
--   checked_one          books of the same bytes with the same numbers are the same, and so are refusals
--   check_one            so the contract of `check` determines its answer
--   check_refused        a refusal is the reading's
--   check_found          bytes that are accepted are not refused
--   Accepted, check_book      a book is accepted, and its numbers are the answer's
-- Assumes nothing.
use Prim.Native.Nat.{ℕ, suc, ◌≤◌, ◌<◌}
use mathlib.Core.Path.{◌≡◌, refl, sym, ap, ◌∙◌, subst}
use mathlib.Core.List.{List, [], ◌∷◌}
use mathlib.Core.Bool.{true}
use native.Mathlib.Omega.{arith}
use lib.ListN.{length, get_or, drop}
use lib.Dec.{ltb}
use borrow.Author.Tests.{lt-ltb}
use native.Mathlib.Nat.{ℕ_set}
use mathlib.Core.Bool.{Bool-set}
use Rattle.std.specs.Prelude.{Result, Ok, Err, IfOk}
use Rattle.std.specs.List.{list_all}
use Rattle.std.specs.Result.{IsOk}
use Rattle.std.specs.Borrow.{Bor}
use Rattle.book.specs.declared.accepted.Book.{Book as Found}
use Rattle.answer.specs.declared.Refusal.{Refusal}
use Rattle.answer.specs.Answer.{Answer, answered, refused, and_then}
use Rattle.answer.specs.declared.Cause.{Cause}
use Rattle.answer.specs.Refusals.{number_of}
use Rattle.answer.proofs.Answers.{then_not, then_then}
use Rattle.answer.proofs.Refusals.{number_some, refusal_one}
use Rattle.answer.proofs.Tests.{and_both}
use Rattle.meaning.specs.Book.{Book}
use Rattle.book.specs.Bytes.{most_bytes, most_clauses}
use Rattle.book.specs.Reading.{variables_of, groups_of, wrong_header, fields, with_clauses, reading}
use Rattle.book.specs.Check.{checked_is, numbers_of, checking}
use Rattle.book.specs.Walk.{taken, book_of, IsBook, answers, is_accepted}
use Rattle.book.proofs.Fields.{reading_long, reading_bad, reading_fields}
use Rattle.book.proofs.Counting.{answer_of}

module _ (s : List ℕ) where
  pub check_long : most_bytes < length s → refused 1 0 ≡ checking s
  unfolding checking
  check_long h = sym (then_not _ 1 0 _ (reading_long s h))

  module _ (short : length s ≤ most_bytes) where
    pub check_bad : (c : Cause) → number_of c ≡ wrong_header s → refused (number_of c) 0 ≡ checking s
    unfolding checking
    check_bad c e = sym (then_not _ (number_of c) 0 _ (reading_bad s short (number_of c) e (number_some c)))

    -- a is what the clauses are counted to
    pub check_counted : wrong_header s ≡ 0 → (v g : ℕ) → v ≡ variables_of s → g ≡ groups_of s → (a : Answer ℕ) → a ≡ answer_of v g s
        → and_then a (λ n. answered (v ∷ g ∷ n ∷ [])) ≡ checking s
    unfolding checking and_then
    check_counted right v g ev eg a e =
        simp (ev, eg, e)
        (then_then (fields (variables_of s) (groups_of s) most_clauses 7 (drop 7 s)) (λ cs. answered (length cs)) (λ n. answered (variables_of s ∷ groups_of s ∷ n ∷ []))
        ∙ sym
        (ap (λ (a : Answer Book). and_then a (λ b. answered (numbers_of b))) (reading_fields s short right)
        ∙ then_then (fields (variables_of s) (groups_of s) most_clauses 7 (drop 7 s)) (with_clauses (variables_of s) (groups_of s)) (λ b. answered (numbers_of b))))

refused_is : (a : Answer Book) (n at : ℕ) → refused n at ≡ and_then a (λ b. answered (numbers_of b)) → a ≡ refused n at
unfolding and_then
refused_is (answered b) n at e = let z : ◌≡◌ {A = ℕ} 0 1 = cc in absurd (omega arith)
refused_is (refused m p) n at e = cc

pub check_refused : (s : List ℕ) (n at : ℕ) → refused n at ≡ checking s → reading s ≡ refused n at
unfolding checking
check_refused s n at e = refused_is (reading s) n at e

pub check_found : (s : List ℕ) → IsBook s → (r : Result Found Refusal) → checked_is r ≡ checking s → IsOk r
check_found s is (Ok b) e = refl
check_found s is (Err q) e =
    let d : refused (number_of q.cause) q.place ≡ answered (book_of s) = sym (check_refused s (number_of q.cause) q.place e) ∙ is.read in
    let z : ◌≡◌ {A = ℕ} 0 1 = cc in
    absurd (omega arith)

-- two books of the same bytes and numbers are the same
abbrev Plain : Type 0
Plain = Bor (List ℕ) × ℕ × ℕ × ℕ

abbrev Facts : Plain → Type 0
Facts t =
    (is_accepted t.0.now ≡ true) × (t.1 ≡ (book_of t.0.now).variables) × (t.2 ≡ (book_of t.0.now).groups)
    × (t.3 ≡ length (book_of t.0.now).clauses)

abbrev found : (t : Plain) → Facts t → Found
found t f =
    record { bytes = t.0; variables = t.1; groups = t.2; clauses = t.3; accepted = f.0; variables_are = f.1; groups_are = f.2; clauses_are = f.3 }

facts_prop : (t : Plain) → IsProp (Facts t)
facts_prop t = hlevel (ℕ_set, Bool-set)

found_one : (t u : Plain) → t ≡ u → (f : Facts t) (h : Facts u) → found t f ≡ found u h
found_one t u e f = subst (λ (u : Plain). (h : Facts u) → found t f ≡ found u h) e (λ h. ap (found t) (facts_prop t f h))

pub checked_one : (bytes : Bor (List ℕ)) (r r' : Result Found Refusal) → IfOk r (λ b. b.bytes ≡ bytes) → IfOk r' (λ b. b.bytes ≡ bytes) → checked_is r ≡ checked_is r' → r ≡ r'
checked_one bytes (Ok x) (Ok y) e d p =
    let t : ◌≡◌ {A = Plain} (x.bytes, x.variables, x.groups, x.clauses) (y.bytes, y.variables, y.groups, y.clauses) = cc in
    ap Ok (found_one _ _ t (x.accepted, x.variables_are, x.groups_are, x.clauses_are) (y.accepted, y.variables_are, y.groups_are, y.clauses_are))
checked_one bytes (Ok x) (Err s) e d p = let z : ◌≡◌ {A = ℕ} 0 1 = cc in absurd (omega arith)
checked_one bytes (Err s) (Ok y) e d p = let z : ◌≡◌ {A = ℕ} 0 1 = cc in absurd (omega arith)
checked_one bytes (Err s) (Err s') e d p =
    let n : number_of s.cause ≡ number_of s'.cause = cc in
    let k : s.place ≡ s'.place = cc in
    ap Err (refusal_one s s' n k)

-- the contract of `check` determines its answer
pub check_one : (bytes : Bor (List ℕ)) (r r' : Result Found Refusal) → checked_is r ≡ checking bytes.now → IfOk r (λ b. b.bytes ≡ bytes)
    → checked_is r' ≡ checking bytes.now → IfOk r' (λ b. b.bytes ≡ bytes) → r ≡ r'
check_one bytes r r' p e q d = checked_one bytes r r' e d (p ∙ sym q)

pub record Accepted (s : List ℕ) (v g n : ℕ) : Type 0 where
  pub accepted : is_accepted s ≡ true
  pub variables : v ≡ (book_of s).variables
  pub groups : g ≡ (book_of s).groups
  pub clauses : n ≡ length (book_of s).clauses

all_bytes : (s : List ℕ) → ((i : ℕ) → get_or s i 0 < 256) → list_all (λ a. ltb a 256) s ≡ true
all_bytes [] h = refl
all_bytes (a ∷ s) h = and_both _ _ (lt-ltb a 256 (h 0)) (all_bytes s (λ i. h (suc i)))

taken_is : (a : Answer Book) (v g n : ℕ) → answered (v ∷ g ∷ n ∷ []) ≡ and_then a (λ b. answered (numbers_of b))
    → (answers a ≡ true) × (v ≡ (taken a).variables) × (g ≡ (taken a).groups) × (n ≡ length (taken a).clauses)
unfolding and_then answers taken
taken_is (answered b) v g n e = (refl, cc, cc, cc)
taken_is (refused m p) v g n e = let z : ◌≡◌ {A = ℕ} 0 1 = cc in absurd (omega arith)

pub check_book : (s : List ℕ) (v g n : ℕ) → ((i : ℕ) → get_or s i 0 < 256) → answered (v ∷ g ∷ n ∷ []) ≡ checking s → Accepted s v g n
unfolding checking book_of is_accepted
check_book s v g n bytes e =
    let t = taken_is (reading s) v g n e in
    record { accepted = and_both _ _ (all_bytes s bytes) t.0; variables = t.1; groups = t.2; clauses = t.3 }
