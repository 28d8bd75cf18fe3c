-- Refusals that document 01 and docs/DECISIONS.md give by example, computed: one row an input, the number and the place.
--   Row, Refused       an input and its refusal; each of some rows is refused so
--   reading_cases      of books
--   taking_cases       of plain forms
-- Assumes nothing.
use Prim.Native.Nat.{ℕ}
use mathlib.Core.Path.{◌≡◌, refl}
use mathlib.Core.List.{List, [], ◌∷◌}
use lib.IntN.{pos}
use Rattle.answer.specs.Answer.{Answer, refused, and_then, first, ◌or_else◌, unless}
use Rattle.field.specs.Words.{words, within, rising}
use Rattle.field.specs.Field.{short}
use Rattle.meaning.specs.Book.{Book}
use Rattle.book.specs.Reading.{wrong_header, wrong_clause, wrong_field, field, ending, following, fields, header, reading}
use Rattle.plain.specs.Plain.{minus}
use Rattle.plain.specs.Taking.{between, number_at, groups_at, literals_at, starting, clauses_at, after_variables, taking}

infix 20 ◌gives◌at◌
pub data Row (A : Type 0) : Type 0 where
  ◌gives◌at◌ : List A → ℕ → ℕ → Row A

abbrev pub Refused : {A : Type 0} → (List A → Answer Book) → List (Row A) → Type 0
Refused f [] = Unit {0}
Refused f ((s gives n at p) ∷ rows) = (f s ≡ refused n p) × Refused f rows

-- reading: case 13 first
pub reading_cases : Refused reading
    (([] gives 2 at 0)
    ∷ ((0 ∷ 0 ∷ 0 ∷ []) gives 4 at 0)
    ∷ ((1 ∷ 0 ∷ 4 ∷ 0 ∷ 1 ∷ 0 ∷ 0 ∷ []) gives 2 at 7)
    ∷ ((5 ∷ 0 ∷ 1 ∷ []) gives 2 at 0)
    ∷ ((5 ∷ 0 ∷ 0 ∷ []) gives 3 at 0)
    ∷ ((0 ∷ 0 ∷ 1 ∷ 7 ∷ []) gives 4 at 0)
    ∷ ((1 ∷ 0 ∷ 4 ∷ 0 ∷ 0 ∷ 0 ∷ 0 ∷ []) gives 7 at 0)
    ∷ ((1 ∷ 0 ∷ 4 ∷ 0 ∷ 3 ∷ 0 ∷ 2 ∷ 1 ∷ 0 ∷ 0 ∷ []) gives 4 at 7)
    ∷ ((1 ∷ 0 ∷ 4 ∷ 0 ∷ 3 ∷ 0 ∷ 2 ∷ 2 ∷ 0 ∷ 6 ∷ 0 ∷ 0 ∷ 0 ∷ 0 ∷ 0 ∷ 0 ∷ []) gives 7 at 7)
    ∷ ((1 ∷ 0 ∷ 4 ∷ 0 ∷ 3 ∷ 0 ∷ 2 ∷ 2 ∷ 0 ∷ 10 ∷ 0 ∷ 0 ∷ 0 ∷ 0 ∷ 0 ∷ 2 ∷ 0 ∷ 1 ∷ 0 ∷ 4 ∷ []) gives 7 at 7)
    ∷ ((1 ∷ 0 ∷ 4 ∷ 0 ∷ 3 ∷ 0 ∷ 2 ∷ 2 ∷ 0 ∷ 8 ∷ 0 ∷ 0 ∷ 0 ∷ 0 ∷ 0 ∷ 2 ∷ 0 ∷ 1 ∷ []) gives 8 at 7)
    ∷ ((1 ∷ 0 ∷ 4 ∷ 0 ∷ 3 ∷ 0 ∷ 2 ∷ 0 ∷ 0 ∷ 0 ∷ 0 ∷ []) gives 9 at 10)
    ∷ [])
unfolding words within rising short wrong_header wrong_clause wrong_field field ending following fields header reading and_then first ◌or_else◌ unless
reading_cases = (refl, (refl, (refl, (refl, (refl, (refl, (refl, (refl, (refl, (refl, (refl, (refl, tt))))))))))))

-- writing
pub taking_cases : Refused taking
    (([] gives 12 at 0)
    ∷ ((pos 5 ∷ []) gives 12 at 1)
    ∷ ((pos 0 ∷ []) gives 7 at 0)
    ∷ ((pos 5 ∷ pos 99 ∷ []) gives 7 at 1)
    ∷ ((pos 1 ∷ pos 0 ∷ pos 0 ∷ []) gives 12 at 3)
    ∷ ((pos 3 ∷ pos 2 ∷ pos 0 ∷ minus 2 ∷ minus 1 ∷ minus 4 ∷ pos 0 ∷ []) gives 8 at 4)
    ∷ ((pos 2 ∷ pos 0 ∷ pos 0 ∷ pos 1 ∷ pos 3 ∷ []) gives 7 at 4)
    ∷ ((pos 3 ∷ pos 0 ∷ pos 0 ∷ minus 1 ∷ pos 2 ∷ minus 3 ∷ pos 0 ∷ []) gives 8 at 5)
    ∷ ((pos 2 ∷ pos 0 ∷ pos 0 ∷ pos 1 ∷ pos 1 ∷ pos 0 ∷ []) gives 13 at 4)
    ∷ ((pos 2 ∷ pos 0 ∷ pos 0 ∷ minus 2147483648 ∷ []) gives 7 at 3)
    ∷ [])
unfolding between number_at groups_at literals_at starting clauses_at after_variables taking and_then first unless
taking_cases = (refl, (refl, (refl, (refl, (refl, (refl, (refl, (refl, (refl, (refl, tt))))))))))
