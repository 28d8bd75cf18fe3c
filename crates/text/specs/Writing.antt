-- The text of a book.
--   group_text g        a group in braces
--   body_text ws        a body: a blank, a minus and the digits for each variable
--   head_text h         a head, if any: a blank and the digits
--   clause_text c       a clause's line: its group, its body, its head, 0
--   clauses_text cs     a line for each clause
--   heading_text b      the `p` line: variables, clauses, groups
--   text_of b           the whole
-- Assumes nothing: these are definitions.
use Rattle.std.specs.Prelude.{ℕ, zero, suc, List, [], ◌∷◌, ◌++◌, length, get_or}
use Rattle.decimal.specs.Digits.{number, after, line}
use Rattle.meaning.specs.Book.{Clause, Book}
use Rattle.text.specs.Lines.{blank, minus_sign, open_brace, close_brace, p_word, gcnf_word}

unfoldable pub group_text : ℕ → List ℕ
group_text g = open_brace ∷ (number g ++ (close_brace ∷ []))

unfoldable pub body_text : List ℕ → List ℕ
body_text [] = []
body_text (w ∷ ws) = blank ∷ (minus_sign ∷ (number w ++ body_text ws))

unfoldable pub head_text : ℕ → List ℕ
head_text zero = []
head_text (suc h) = after (suc h)

unfoldable pub clause_text : Clause → List ℕ
clause_text c = line (group_text (get_or c.groups 0 0)) (body_text c.body ++ (head_text c.head ++ after 0))

unfoldable pub clauses_text : List Clause → List ℕ
clauses_text [] = []
clauses_text (c ∷ cs) = clause_text c ++ clauses_text cs

unfoldable pub heading_text : Book → List ℕ
heading_text b = line (p_word ++ (blank ∷ gcnf_word)) (after b.variables ++ (after (length b.clauses) ++ after b.groups))

unfoldable pub text_of : Book → List ℕ
text_of b = heading_text b ++ clauses_text b.clauses
