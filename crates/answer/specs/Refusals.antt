-- Refusals, and what a call that may refuse answers.
--   number_of c       the number by which documents name a cause
--   wrong_is r        what a test finds wrong, by number; 0 where nothing is
--   refusal_is r      the refusal, by number and place
--   answer_is f r     the answer that a result is: what f makes of what the call answers, or the refusal's number and place
-- Assumes nothing: these are definitions.
use Rattle.std.specs.Prelude.{ℕ, Result, Ok, Err}
use Rattle.answer.specs.Answer.{Answer, answered, refused}
use Rattle.answer.specs.declared.Cause.{Cause}
use Rattle.answer.specs.declared.Cause.TheVariants as CauseV
use Rattle.answer.specs.declared.Refusal.{Refusal}

abbrev pub number_of : Cause → ℕ
number_of CauseV.TooLong = 1
number_of CauseV.CutShort = 2
number_of CauseV.UnknownTag = 3
number_of CauseV.HeaderMisplaced = 4
number_of CauseV.BadLength = 5
number_of CauseV.TooManyClauses = 6
number_of CauseV.OutOfRange = 7
number_of CauseV.NotRising = 8
number_of CauseV.BytesAfterEnd = 9
number_of CauseV.GroupLacking = 10
number_of CauseV.SpaceTooSmall = 11
number_of CauseV.Unended = 12
number_of CauseV.SecondHead = 13
number_of CauseV.BadRecord = 14
number_of CauseV.SeveralHeads = 20
number_of CauseV.WrongClauseCount = 21
number_of CauseV.Formless = 22

abbrev pub wrong_is : {A : Type 0} → Result A Cause → ℕ
wrong_is (Ok a) = 0
wrong_is (Err c) = number_of c

abbrev pub refusal_is : {A : Type 0} → Refusal → Answer A
refusal_is r = refused (number_of r.cause) r.place

abbrev pub answer_is : {A B : Type 0} → (A → B) → Result A Refusal → Answer B
answer_is f (Ok a) = answered (f a)
answer_is f (Err r) = refusal_is r
