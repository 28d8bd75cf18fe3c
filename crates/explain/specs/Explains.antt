-- What explaining a choice answers, and what it leaves.
--   reach_from k g pool l      the lowest group of the pool above g whose number is at least the level l, of the next k groups; 0 if there is none
--   transition pool l         the same of all groups
--   explained b x             the smallest explanation within the choice x; none where the choice is consistent
--   within_is r                what is found within a choice, as numbers: none for consistent, or the explanation
--   explained_is r             the answer that a result is: such numbers, or the refusal
--   explains s x words        the book to explain by, where the working space has `words` words; or the refusal: the book's, 10, 11
--   Explaining a x r work work'      of the book that a is, or the refusal: r is the answer, and work' is what work becomes
-- Assumes nothing: these are definitions.
use Rattle.std.specs.Prelude.{ℕ, Option, None, Some, Result, zero, suc, ◌+◌, ◌≡◌, List, [], ◌∷◌, cond, ◌&&◌, eqb, leb, ltb}
use Rattle.answer.specs.Answer.{Answer, answered, and_then, ◌⇒◌, first, unless}
use Rattle.answer.specs.Refusals.{answer_is}
use Rattle.answer.specs.declared.Refusal.{Refusal}
use Rattle.answer.specs.Space.{laid}
use Rattle.meaning.specs.Book.{Book}
use Rattle.meaning.specs.Choice.{digit}
use Rattle.meaning.specs.Forced.{inconsistent}
use Rattle.rounds.specs.Rounds.{smallest}
use Rattle.book.specs.Bytes.{most_groups}
use Rattle.admit.specs.Admits.{admits, work_words, zeros}

unfoldable pub reach_from : ℕ → ℕ → ℕ → ℕ → ℕ
reach_from zero g pool l = 0
reach_from (suc k) g pool l = cond (eqb (digit pool g) 1 && leb l (g + 1)) (g + 1) (reach_from k (g + 1) pool l)

unfoldable pub transition : ℕ → ℕ → ℕ
transition pool l = reach_from most_groups 0 pool l

unfoldable pub explained : Book → ℕ → List ℕ
explained b x = cond (inconsistent b x) (smallest (inconsistent b) x ∷ []) []

abbrev pub within_is : Option ℕ → List ℕ
within_is None = []
within_is (Some e) = e ∷ []

abbrev pub explained_is : Result (Option ℕ) Refusal → Answer (List ℕ)
explained_is = answer_is within_is

unfoldable pub explains : List ℕ → ℕ → ℕ → Answer Book
explains s x words = and_then (admits s x) (λ b. unless (first ((ltb words work_words ⇒ 11) ∷ [])) 0 (answered b))

abbrev pub Explaining : Answer Book → ℕ → Result (Option ℕ) Refusal → (work work' : List ℕ) → Type 0
Explaining a x r work work' = (explained_is r ≡ and_then a (λ b. answered (explained b x))) × (work' ≡ laid (and_then a (λ b. answered zeros)) work)
