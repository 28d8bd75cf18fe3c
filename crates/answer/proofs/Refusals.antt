-- Results are determined by the answers that they are.
--   named, named_number      the cause of a number
--   number_some              a cause's number is not 0
--   or_number, in_turn       what is wrong by one test or else another, the first by its cause
--   right_where, value_where, cause_where      a test whose cause becomes a refusal at a place: by what that gives
--   number_one, refusal_one, answer_one      causes, refusals and results that are the same answer are the same
-- Assumes nothing.
use Prim.Native.Nat.{ℕ}
use mathlib.Core.Path.{◌≡◌, refl, sym, ap, ◌∙◌, subst}
use mathlib.Core.Bool.{cond, false≢true}
use native.Mathlib.Omega.{arith}
use lib.Dec.{eqb}
use Rattle.std.specs.Prelude.{Result, Ok, Err, true, MatchResult, IfOk, is_ok}
use Rattle.answer.specs.Answer.{◌or_else◌}
use Rattle.answer.specs.declared.Cause.{Cause}
use Rattle.answer.specs.declared.Cause.TheVariants as CauseV
use Rattle.answer.specs.declared.Refusal.{Refusal}
use Rattle.answer.specs.Refusals.{number_of, wrong_is, answer_is}
use Rattle.answer.proofs.Tests.{or_none, or_some}

named : ℕ → Cause
named n =
    cond (eqb n 1) CauseV.TooLong
    (cond (eqb n 2) CauseV.CutShort
    (cond (eqb n 3) CauseV.UnknownTag
    (cond (eqb n 4) CauseV.HeaderMisplaced
    (cond (eqb n 5) CauseV.BadLength
    (cond (eqb n 6) CauseV.TooManyClauses
    (cond (eqb n 7) CauseV.OutOfRange
    (cond (eqb n 8) CauseV.NotRising
    (cond (eqb n 9) CauseV.BytesAfterEnd
    (cond (eqb n 10) CauseV.GroupLacking
    (cond (eqb n 11) CauseV.SpaceTooSmall
    (cond (eqb n 12) CauseV.Unended
    (cond (eqb n 13) CauseV.SecondHead
    (cond (eqb n 14) CauseV.BadRecord
    (cond (eqb n 20) CauseV.SeveralHeads
    (cond (eqb n 21) CauseV.WrongClauseCount CauseV.Formless)))))))))))))))

named_number : (c : Cause) → named (number_of c) ≡ c
unfolding named
named_number CauseV.TooLong = refl
named_number CauseV.CutShort = refl
named_number CauseV.UnknownTag = refl
named_number CauseV.HeaderMisplaced = refl
named_number CauseV.BadLength = refl
named_number CauseV.TooManyClauses = refl
named_number CauseV.OutOfRange = refl
named_number CauseV.NotRising = refl
named_number CauseV.BytesAfterEnd = refl
named_number CauseV.GroupLacking = refl
named_number CauseV.SpaceTooSmall = refl
named_number CauseV.Unended = refl
named_number CauseV.SecondHead = refl
named_number CauseV.BadRecord = refl
named_number CauseV.SeveralHeads = refl
named_number CauseV.WrongClauseCount = refl
named_number CauseV.Formless = refl

number_one : (a b : Cause) → number_of a ≡ number_of b → a ≡ b
number_one a b e = sym (named_number a) ∙ ap named e ∙ named_number b

pub refusal_one : (a b : Refusal) → number_of a.cause ≡ number_of b.cause → a.place ≡ b.place → a ≡ b
refusal_one a b n p =
    let by_cause : Cause → Refusal = λ c. record { cause = c; place = a.place } in
    let by_place : ℕ → Refusal = λ k. record { cause = b.cause; place = k } in
    ap by_cause (number_one a.cause b.cause n) ∙ ap by_place p

pub answer_one : {A B : Type 0} (f : A → B) → ((x y : A) → f x ≡ f y → x ≡ y) → (a b : Result A Refusal) → answer_is f a ≡ answer_is f b → a ≡ b
answer_one f one (Ok x) (Ok y) e = let p : f x ≡ f y = cc in ap Ok (one x y p)
answer_one f one (Ok x) (Err r) e = let z : ◌≡◌ {A = ℕ} 0 1 = cc in absurd (omega arith)
answer_one f one (Err r) (Ok y) e = let z : ◌≡◌ {A = ℕ} 0 1 = cc in absurd (omega arith)
answer_one f one (Err r) (Err s) e =
    let n : number_of r.cause ≡ number_of s.cause = cc in
    let p : r.place ≡ s.place = cc in
    ap Err (refusal_one r s n p)

pub number_some : (c : Cause) → number_of c ≡ 0 → ⊥
number_some CauseV.TooLong e = omega arith
number_some CauseV.CutShort e = omega arith
number_some CauseV.UnknownTag e = omega arith
number_some CauseV.HeaderMisplaced e = omega arith
number_some CauseV.BadLength e = omega arith
number_some CauseV.TooManyClauses e = omega arith
number_some CauseV.OutOfRange e = omega arith
number_some CauseV.NotRising e = omega arith
number_some CauseV.BytesAfterEnd e = omega arith
number_some CauseV.GroupLacking e = omega arith
number_some CauseV.SpaceTooSmall e = omega arith
number_some CauseV.Unended e = omega arith
number_some CauseV.SecondHead e = omega arith
number_some CauseV.BadRecord e = omega arith
number_some CauseV.SeveralHeads e = omega arith
number_some CauseV.WrongClauseCount e = omega arith
number_some CauseV.Formless e = omega arith

pub or_number : (c : Cause) (m : ℕ) → number_of c or_else m ≡ number_of c
or_number c m = or_some (number_of c) m (number_some c)

pub ruleset in_turn = (or_number, or_none, or_some)

-- what `map_err` of a test's cause to a refusal at a place says of the test's result r
pub right_where : {A : Type 0} (r : Result A Cause) → true ≡ is_ok r → wrong_is r ≡ 0
right_where (Ok a) e = refl
right_where (Err c) e = absurd (false≢true (sym e))

pub cause_where : {A : Type 0} (r : Result A Cause) (s : Refusal) (at : ℕ) (P : Cause → Type 0)
    → MatchResult r (λ a. ◌≡◌ {A = Result A Refusal} (Err s) (Ok a)) P
    → ((c : Cause) → P c → (s.cause ≡ c) × (s.place ≡ at))
    → (wrong_is r ≡ number_of s.cause) × (s.place ≡ at)
cause_where (Ok a) s at P h k = absurd (cc)
cause_where (Err c) s at P h k = (ap number_of (sym (k c h).0), (k c h).1)

pub value_where : {A : Type 0} (r : Result A Cause) (x : A) (P : Cause → Type 0) (Q : A → Type 0) → true ≡ is_ok r
    → MatchResult r (λ a. ◌≡◌ {A = Result A Refusal} (Ok x) (Ok a)) P → IfOk r Q → Q x
value_where (Ok a) x P Q t e q = let p : a ≡ x = cc in subst Q p q
value_where (Err c) x P Q t e q = absurd (false≢true (sym t))
