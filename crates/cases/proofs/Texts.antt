-- Group CNF text, computed: Book X, refusals that the request and docs/DECISIONS.md give by example, and texts that are taken.
--   x_text            Book X as text, a line to a line
--   is_text, is_taken_text      it is what X is written as, and it is taken as X
--   text_refusals     one row a text, the number and the line
--   TextRow, Takes    a text, and the clauses that it has in a book of 3 variables and 2 groups; each of some rows is taken so
--   text_clauses      the table
-- Assumes nothing.
use Prim.Native.Nat.{ℕ}
use mathlib.Core.Path.{◌≡◌, refl}
use mathlib.Core.List.{List, [], ◌∷◌}
use Rattle.answer.specs.Answer.{answered, and_then, first, unless}
use Rattle.field.specs.Words.{within}
use Rattle.decimal.specs.Digits.{digits_in, line}
use Rattle.meaning.specs.Book.{Clause, clause_from}
use Rattle.book.specs.Reading.{with_clauses}
use Rattle.text.specs.Lines.{joined, pieces, filled, ends, lines, separates, tokens, same, is_digit, all_digits, digits, value_from, is_minus, is_literal, literal_of, is_zero, is_group}
use Rattle.text.specs.Forms.{by_form, none, literals, closed, clause_line, counts_line, heading_line, form_of, is_comment, line_of}
use Rattle.text.specs.Taking.{heads, bodies, each, insert, gather, clauses_at, following, opening_at, taking_text}
use Rattle.text.specs.Writing.{group_text, body_text, head_text, clause_text, clauses_text, heading_text, text_of}
use Rattle.cases.proofs.BookX.{x}
use Rattle.cases.proofs.Refusals.{◌gives◌at◌, Refused}

abbrev pub x_text : List ℕ
x_text =
    112 ∷ 32 ∷ 103 ∷ 99 ∷ 110 ∷ 102 ∷ 32 ∷ 51 ∷ 32 ∷ 54 ∷ 32 ∷ 53 ∷ 10
    ∷ 123 ∷ 48 ∷ 125 ∷ 32 ∷ 45 ∷ 51 ∷ 32 ∷ 48 ∷ 10
    ∷ 123 ∷ 49 ∷ 125 ∷ 32 ∷ 49 ∷ 32 ∷ 48 ∷ 10
    ∷ 123 ∷ 50 ∷ 125 ∷ 32 ∷ 45 ∷ 49 ∷ 32 ∷ 51 ∷ 32 ∷ 48 ∷ 10
    ∷ 123 ∷ 51 ∷ 125 ∷ 32 ∷ 50 ∷ 32 ∷ 48 ∷ 10
    ∷ 123 ∷ 52 ∷ 125 ∷ 32 ∷ 45 ∷ 50 ∷ 32 ∷ 51 ∷ 32 ∷ 48 ∷ 10
    ∷ 123 ∷ 53 ∷ 125 ∷ 32 ∷ 45 ∷ 49 ∷ 32 ∷ 50 ∷ 32 ∷ 48 ∷ 10
    ∷ []

pub is_text : text_of x ≡ x_text
unfolding digits_in line group_text body_text head_text clause_text clauses_text heading_text text_of
is_text = refl

pub is_taken_text : taking_text x_text ≡ answered x
unfolding and_then first unless within joined pieces filled ends lines separates tokens same is_digit all_digits digits value_from is_minus is_literal literal_of is_zero is_group by_form none literals closed clause_line counts_line heading_line form_of is_comment line_of heads bodies each insert gather clauses_at following opening_at taking_text
is_taken_text = refl

pub text_refusals : Refused taking_text
    --
    ((([]) gives 22 at 0)
    -- c\n \t\n
    ∷ ((99 ∷ 10 ∷ 32 ∷ 9 ∷ 10 ∷ []) gives 22 at 0)
    -- {1} 0\n
    ∷ ((123 ∷ 49 ∷ 125 ∷ 32 ∷ 48 ∷ 10 ∷ []) gives 22 at 1)
    -- p gcnf 3 1 2\np gcnf 0 0 0
    ∷ ((112 ∷ 32 ∷ 103 ∷ 99 ∷ 110 ∷ 102 ∷ 32 ∷ 51 ∷ 32 ∷ 49 ∷ 32 ∷ 50 ∷ 10 ∷ 112 ∷ 32 ∷ 103 ∷ 99 ∷ 110 ∷ 102 ∷ 32 ∷ 48 ∷ 32 ∷ 48 ∷ 32 ∷ 48 ∷ []) gives 22 at 2)
    -- p gcnf 3 1\n
    ∷ ((112 ∷ 32 ∷ 103 ∷ 99 ∷ 110 ∷ 102 ∷ 32 ∷ 51 ∷ 32 ∷ 49 ∷ 10 ∷ []) gives 22 at 1)
    -- p gcnf 3 1 +2\n
    ∷ ((112 ∷ 32 ∷ 103 ∷ 99 ∷ 110 ∷ 102 ∷ 32 ∷ 51 ∷ 32 ∷ 49 ∷ 32 ∷ 43 ∷ 50 ∷ 10 ∷ []) gives 22 at 1)
    -- pgcnf 3 1 2\n
    ∷ ((112 ∷ 103 ∷ 99 ∷ 110 ∷ 102 ∷ 32 ∷ 51 ∷ 32 ∷ 49 ∷ 32 ∷ 50 ∷ 10 ∷ []) gives 22 at 1)
    -- p gcnf 3 1 2\r\n
    ∷ ((112 ∷ 32 ∷ 103 ∷ 99 ∷ 110 ∷ 102 ∷ 32 ∷ 51 ∷ 32 ∷ 49 ∷ 32 ∷ 50 ∷ 13 ∷ 10 ∷ []) gives 22 at 1)
    -- p gcnf 3 1 2\n\r\n
    ∷ ((112 ∷ 32 ∷ 103 ∷ 99 ∷ 110 ∷ 102 ∷ 32 ∷ 51 ∷ 32 ∷ 49 ∷ 32 ∷ 50 ∷ 10 ∷ 13 ∷ 10 ∷ []) gives 22 at 2)
    -- p gcnf 3 1 2\n c\n
    ∷ ((112 ∷ 32 ∷ 103 ∷ 99 ∷ 110 ∷ 102 ∷ 32 ∷ 51 ∷ 32 ∷ 49 ∷ 32 ∷ 50 ∷ 10 ∷ 32 ∷ 99 ∷ 10 ∷ []) gives 22 at 2)
    -- p gcnf 3 1 2\n{1}2 0
    ∷ ((112 ∷ 32 ∷ 103 ∷ 99 ∷ 110 ∷ 102 ∷ 32 ∷ 51 ∷ 32 ∷ 49 ∷ 32 ∷ 50 ∷ 10 ∷ 123 ∷ 49 ∷ 125 ∷ 50 ∷ 32 ∷ 48 ∷ []) gives 22 at 2)
    -- p gcnf 3 1 2\n{ 1} 2 0
    ∷ ((112 ∷ 32 ∷ 103 ∷ 99 ∷ 110 ∷ 102 ∷ 32 ∷ 51 ∷ 32 ∷ 49 ∷ 32 ∷ 50 ∷ 10 ∷ 123 ∷ 32 ∷ 49 ∷ 125 ∷ 32 ∷ 50 ∷ 32 ∷ 48 ∷ []) gives 22 at 2)
    -- p gcnf 3 1 2\n{} 2 0
    ∷ ((112 ∷ 32 ∷ 103 ∷ 99 ∷ 110 ∷ 102 ∷ 32 ∷ 51 ∷ 32 ∷ 49 ∷ 32 ∷ 50 ∷ 10 ∷ 123 ∷ 125 ∷ 32 ∷ 50 ∷ 32 ∷ 48 ∷ []) gives 22 at 2)
    -- p gcnf 3 1 2\n{-1} 2 0
    ∷ ((112 ∷ 32 ∷ 103 ∷ 99 ∷ 110 ∷ 102 ∷ 32 ∷ 51 ∷ 32 ∷ 49 ∷ 32 ∷ 50 ∷ 10 ∷ 123 ∷ 45 ∷ 49 ∷ 125 ∷ 32 ∷ 50 ∷ 32 ∷ 48 ∷ []) gives 22 at 2)
    -- p gcnf 3 1 2\n{1} 0 0
    ∷ ((112 ∷ 32 ∷ 103 ∷ 99 ∷ 110 ∷ 102 ∷ 32 ∷ 51 ∷ 32 ∷ 49 ∷ 32 ∷ 50 ∷ 10 ∷ 123 ∷ 49 ∷ 125 ∷ 32 ∷ 48 ∷ 32 ∷ 48 ∷ []) gives 22 at 2)
    -- p gcnf 3 1 2\n{1} -0
    ∷ ((112 ∷ 32 ∷ 103 ∷ 99 ∷ 110 ∷ 102 ∷ 32 ∷ 51 ∷ 32 ∷ 49 ∷ 32 ∷ 50 ∷ 10 ∷ 123 ∷ 49 ∷ 125 ∷ 32 ∷ 45 ∷ 48 ∷ []) gives 22 at 2)
    -- p gcnf 3 1 2\n{1} 1
    ∷ ((112 ∷ 32 ∷ 103 ∷ 99 ∷ 110 ∷ 102 ∷ 32 ∷ 51 ∷ 32 ∷ 49 ∷ 32 ∷ 50 ∷ 10 ∷ 123 ∷ 49 ∷ 125 ∷ 32 ∷ 49 ∷ []) gives 22 at 2)
    -- p gcnf 3 1 2\n{1} 1 0 2 0
    ∷ ((112 ∷ 32 ∷ 103 ∷ 99 ∷ 110 ∷ 102 ∷ 32 ∷ 51 ∷ 32 ∷ 49 ∷ 32 ∷ 50 ∷ 10 ∷ 123 ∷ 49 ∷ 125 ∷ 32 ∷ 49 ∷ 32 ∷ 48 ∷ 32 ∷ 50 ∷ 32 ∷ 48 ∷ []) gives 22 at 2)
    -- p gcnf 0 1 2
    ∷ ((112 ∷ 32 ∷ 103 ∷ 99 ∷ 110 ∷ 102 ∷ 32 ∷ 48 ∷ 32 ∷ 49 ∷ 32 ∷ 50 ∷ []) gives 7 at 1)
    -- p gcnf 1025 1 2
    ∷ ((112 ∷ 32 ∷ 103 ∷ 99 ∷ 110 ∷ 102 ∷ 32 ∷ 49 ∷ 48 ∷ 50 ∷ 53 ∷ 32 ∷ 49 ∷ 32 ∷ 50 ∷ []) gives 7 at 1)
    -- p gcnf 3 2049 2
    ∷ ((112 ∷ 32 ∷ 103 ∷ 99 ∷ 110 ∷ 102 ∷ 32 ∷ 51 ∷ 32 ∷ 50 ∷ 48 ∷ 52 ∷ 57 ∷ 32 ∷ 50 ∷ []) gives 7 at 1)
    -- p gcnf 3 1 33
    ∷ ((112 ∷ 32 ∷ 103 ∷ 99 ∷ 110 ∷ 102 ∷ 32 ∷ 51 ∷ 32 ∷ 49 ∷ 32 ∷ 51 ∷ 51 ∷ []) gives 7 at 1)
    -- p gcnf 3 1 2\n{3} 1 2 0
    ∷ ((112 ∷ 32 ∷ 103 ∷ 99 ∷ 110 ∷ 102 ∷ 32 ∷ 51 ∷ 32 ∷ 49 ∷ 32 ∷ 50 ∷ 10 ∷ 123 ∷ 51 ∷ 125 ∷ 32 ∷ 49 ∷ 32 ∷ 50 ∷ 32 ∷ 48 ∷ []) gives 7 at 2)
    -- p gcnf 3 1 2\n{1} 1 2 4 0
    ∷ ((112 ∷ 32 ∷ 103 ∷ 99 ∷ 110 ∷ 102 ∷ 32 ∷ 51 ∷ 32 ∷ 49 ∷ 32 ∷ 50 ∷ 10 ∷ 123 ∷ 49 ∷ 125 ∷ 32 ∷ 49 ∷ 32 ∷ 50 ∷ 32 ∷ 52 ∷ 32 ∷ 48 ∷ []) gives 7 at 2)
    -- p gcnf 3 1 2\n{1} 4294967297 0
    ∷ ((112 ∷ 32 ∷ 103 ∷ 99 ∷ 110 ∷ 102 ∷ 32 ∷ 51 ∷ 32 ∷ 49 ∷ 32 ∷ 50 ∷ 10 ∷ 123 ∷ 49 ∷ 125 ∷ 32 ∷ 52 ∷ 50 ∷ 57 ∷ 52 ∷ 57 ∷ 54 ∷ 55 ∷ 50 ∷ 57 ∷ 55 ∷ 32 ∷ 48 ∷ []) gives 7 at 2)
    -- p gcnf 3 1 2\n{18446744073709551617} 1 0
    ∷ ((112 ∷ 32 ∷ 103 ∷ 99 ∷ 110 ∷ 102 ∷ 32 ∷ 51 ∷ 32 ∷ 49 ∷ 32 ∷ 50 ∷ 10 ∷ 123 ∷ 49 ∷ 56 ∷ 52 ∷ 52 ∷ 54 ∷ 55 ∷ 52 ∷ 52 ∷ 48 ∷ 55 ∷ 51 ∷ 55 ∷ 48 ∷ 57 ∷ 53 ∷ 53 ∷ 49 ∷ 54 ∷ 49 ∷ 55 ∷ 125 ∷ 32 ∷ 49 ∷ 32 ∷ 48 ∷ []) gives 7 at 2)
    -- p gcnf 3 1 2\n{1} 1 2 0
    ∷ ((112 ∷ 32 ∷ 103 ∷ 99 ∷ 110 ∷ 102 ∷ 32 ∷ 51 ∷ 32 ∷ 49 ∷ 32 ∷ 50 ∷ 10 ∷ 123 ∷ 49 ∷ 125 ∷ 32 ∷ 49 ∷ 32 ∷ 50 ∷ 32 ∷ 48 ∷ []) gives 20 at 2)
    -- \np gcnf 3 2 2\n{1} 1 0\n\n
    ∷ ((10 ∷ 112 ∷ 32 ∷ 103 ∷ 99 ∷ 110 ∷ 102 ∷ 32 ∷ 51 ∷ 32 ∷ 50 ∷ 32 ∷ 50 ∷ 10 ∷ 123 ∷ 49 ∷ 125 ∷ 32 ∷ 49 ∷ 32 ∷ 48 ∷ 10 ∷ 10 ∷ []) gives 21 at 2)
    -- p gcnf 3 0 2\n{1} 1 0
    ∷ ((112 ∷ 32 ∷ 103 ∷ 99 ∷ 110 ∷ 102 ∷ 32 ∷ 51 ∷ 32 ∷ 48 ∷ 32 ∷ 50 ∷ 10 ∷ 123 ∷ 49 ∷ 125 ∷ 32 ∷ 49 ∷ 32 ∷ 48 ∷ []) gives 21 at 1)
    -- p gcnf 3 1 2\n{3} 0\n{1}2 0\n
    ∷ ((112 ∷ 32 ∷ 103 ∷ 99 ∷ 110 ∷ 102 ∷ 32 ∷ 51 ∷ 32 ∷ 49 ∷ 32 ∷ 50 ∷ 10 ∷ 123 ∷ 51 ∷ 125 ∷ 32 ∷ 48 ∷ 10 ∷ 123 ∷ 49 ∷ 125 ∷ 50 ∷ 32 ∷ 48 ∷ 10 ∷ []) gives 7 at 2)
    ∷ [])
unfolding and_then first unless within joined pieces filled ends lines separates tokens same is_digit all_digits digits value_from is_minus is_literal literal_of is_zero is_group by_form none literals closed clause_line counts_line heading_line form_of is_comment line_of heads bodies each insert gather clauses_at following opening_at taking_text
text_refusals = (refl, (refl, (refl, (refl, (refl, (refl, (refl, (refl, (refl, (refl, (refl, (refl, (refl, (refl, (refl, (refl, (refl, (refl, (refl, (refl, (refl, (refl, (refl, (refl, (refl, (refl, (refl, (refl, (refl, (refl, tt))))))))))))))))))))))))))))))

infix 20 ◌is◌
pub data TextRow : Type 0 where
  ◌is◌ : List ℕ → List Clause → TextRow

abbrev pub Takes : List TextRow → Type 0
Takes [] = Unit {0}
Takes ((t is cs) ∷ rows) = (taking_text t ≡ with_clauses 3 2 cs) × Takes rows

pub text_clauses : Takes
    -- p gcnf 3 1 2\n{1} -2 1 0\n
    (((112 ∷ 32 ∷ 103 ∷ 99 ∷ 110 ∷ 102 ∷ 32 ∷ 51 ∷ 32 ∷ 49 ∷ 32 ∷ 50 ∷ 10 ∷ 123 ∷ 49 ∷ 125 ∷ 32 ∷ 45 ∷ 50 ∷ 32 ∷ 49 ∷ 32 ∷ 48 ∷ 10 ∷ []) is (clause_from (1 ∷ []) 1 (2 ∷ []) ∷ []))
    -- p\tgcnf 003 01  2 \n\t{01} -02 00\t
    ∷ ((112 ∷ 9 ∷ 103 ∷ 99 ∷ 110 ∷ 102 ∷ 32 ∷ 48 ∷ 48 ∷ 51 ∷ 32 ∷ 48 ∷ 49 ∷ 32 ∷ 32 ∷ 50 ∷ 32 ∷ 10 ∷ 9 ∷ 123 ∷ 48 ∷ 49 ∷ 125 ∷ 32 ∷ 45 ∷ 48 ∷ 50 ∷ 32 ∷ 48 ∷ 48 ∷ 9 ∷ []) is (clause_from (1 ∷ []) 0 (2 ∷ []) ∷ []))
    -- cat\n\np gcnf 3 1 2\nc \r\n{0} -3 -1 -3 -2 -1 0
    ∷ ((99 ∷ 97 ∷ 116 ∷ 10 ∷ 10 ∷ 112 ∷ 32 ∷ 103 ∷ 99 ∷ 110 ∷ 102 ∷ 32 ∷ 51 ∷ 32 ∷ 49 ∷ 32 ∷ 50 ∷ 10 ∷ 99 ∷ 32 ∷ 13 ∷ 10 ∷ 123 ∷ 48 ∷ 125 ∷ 32 ∷ 45 ∷ 51 ∷ 32 ∷ 45 ∷ 49 ∷ 32 ∷ 45 ∷ 51 ∷ 32 ∷ 45 ∷ 50 ∷ 32 ∷ 45 ∷ 49 ∷ 32 ∷ 48 ∷ []) is (clause_from (0 ∷ []) 0 (1 ∷ 2 ∷ 3 ∷ []) ∷ []))
    -- p gcnf 3 1 2\n{2} 1 -1 1 0
    ∷ ((112 ∷ 32 ∷ 103 ∷ 99 ∷ 110 ∷ 102 ∷ 32 ∷ 51 ∷ 32 ∷ 49 ∷ 32 ∷ 50 ∷ 10 ∷ 123 ∷ 50 ∷ 125 ∷ 32 ∷ 49 ∷ 32 ∷ 45 ∷ 49 ∷ 32 ∷ 49 ∷ 32 ∷ 48 ∷ []) is (clause_from (2 ∷ []) 1 (1 ∷ []) ∷ []))
    ∷ [])
unfolding and_then first unless within joined pieces filled ends lines separates tokens same is_digit all_digits digits value_from is_minus is_literal literal_of is_zero is_group by_form none literals closed clause_line counts_line heading_line form_of is_comment line_of heads bodies each insert gather clauses_at following opening_at taking_text
text_clauses = (refl, (refl, (refl, (refl, tt))))
