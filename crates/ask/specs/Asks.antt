-- What asking about a choice answers, and what it leaves.
--   asked_is r           the answer that `Asked` is: no number for consistent, the goal's number for a contradiction, or the refusal
--   goals n             the lowest broken goal as such numbers: none where n is 0
--   asks s x room words      the book to ask, where out has `room` bytes and the working space `words` words; or the refusal: the book's, 10, 11
--   Told a x t out work out' work'        of the book that a is, or the refusal: t is the answer, and out' and work' are what out and work become
--   Asking a x r out work out' work'      the same of the answer that r is
-- Assumes nothing: these are definitions.
use Rattle.std.specs.Prelude.{ℕ, zero, suc, ◌≡◌, List, [], ◌∷◌, ltb}
use Rattle.answer.specs.Answer.{Answer, answered, refused, and_then, ◌⇒◌, first, unless}
use Rattle.answer.specs.Space.{laid}
use Rattle.meaning.specs.Book.{Book}
use Rattle.meaning.specs.Forced.{forced_in, broken_in}
use Rattle.admit.specs.Admits.{admits, work_words, zeros}
use Rattle.ask.specs.declared.Asked.{Asked}
use Rattle.ask.specs.declared.Asked.TheVariants as AskedV

unfoldable pub asked_is : Asked → Answer (List ℕ)
asked_is AskedV.Consistent = answered []
asked_is (AskedV.Contradiction n) = answered (n ∷ [])
asked_is (AskedV.Refused n at) = refused n at

unfoldable pub goals : ℕ → List ℕ
goals zero = []
goals (suc n) = suc n ∷ []

unfoldable pub asks : List ℕ → ℕ → ℕ → ℕ → Answer Book
asks s x room words = and_then (admits s x) (λ b. unless (first ((ltb room b.variables ⇒ 11) ∷ (ltb words work_words ⇒ 11) ∷ [])) 0 (answered b))

abbrev pub Told : Answer Book → ℕ → Answer (List ℕ) → (out work out' work' : List ℕ) → Type 0
Told a x t out work out' work' =
    (t ≡ and_then a (λ b. answered (goals (broken_in b x))))
    × (out' ≡ laid (and_then a (λ b. answered (forced_in b x))) out)
    × (work' ≡ laid (and_then a (λ b. answered zeros)) work)

abbrev pub Asking : Answer Book → ℕ → Asked → (out work out' work' : List ℕ) → Type 0
Asking a x r out work out' work' = Told a x (asked_is r) out work out' work'
