-- What the steps of turning a text into a book answer.
--   past_of t n              the place after a line of n bytes that stands first in t: past its line feed, if it has one
--   line_size l ls           how many bytes line l takes with its line feed, which only a line has that others, ls, follow
--   line_in t, after_line t  the first line of t, and what follows its line feed
--   heading_of h i next      what a `p` line is found to be that is line i and has the numbers h, where next is the place after it: these, or the refusal
--   opening_from i at ls     the lines ls up to the `p` line, where the first is line i and stands at place `at`: the `p` line's numbers, its own, and the place after it
--   opening_of t             the same of a whole text
--   clauses_in a             the clauses that were answered; none where there are none
--   clauses_of v g t         the clauses of the lines t after the `p` line
--   AreClauses v g t        they are accepted
-- Assumes nothing: these are definitions.
use Rattle.std.specs.Prelude.{ℕ, ◌+◌, ◌≡◌, List, [], ◌∷◌, cond, length, take, drop, ltb}
use Rattle.answer.specs.Answer.{Answer, answered, refused, first, unless}
use Rattle.meaning.specs.Book.{Clause}
use Rattle.book.specs.Bytes.{most_clauses}
use Rattle.text.specs.Lines.{ends, lines}
use Rattle.text.specs.Forms.{by_form, line_of}
use Rattle.text.specs.Taking.{heading_tests, clauses_at}
use Rattle.line.specs.Tokens.{run_of}
use Rattle.line.specs.declared.Heading.{Heading}
use Rattle.text_reader.specs.declared.Opening.{Opening}

unfoldable pub past_of : List ℕ → ℕ → ℕ
past_of t n = cond (ltb n (length t)) (n + 1) n

unfoldable pub line_size : List ℕ → List (List ℕ) → ℕ
line_size l [] = length l
line_size l (m ∷ ls) = length l + 1

abbrev pub line_in : List ℕ → List ℕ
line_in t = take (run_of ends t) t

abbrev pub after_line : List ℕ → List ℕ
after_line t = drop (past_of t (run_of ends t)) t

unfoldable pub heading_of : Heading → ℕ → ℕ → Answer Opening
heading_of h i next = unless (first (heading_tests h.variables h.clauses h.groups)) i (answered (record { heading = h; line = i; next = next }))

unfoldable pub opening_from : ℕ → ℕ → List (List ℕ) → Answer Opening
opening_from i at [] = refused 22 0
opening_from i at (l ∷ ls) =
    by_form (line_of l)
    (opening_from (i + 1) (at + line_size l ls) ls)
    (λ v n g. heading_of (record { variables = v; clauses = n; groups = g }) i (at + line_size l ls))
    (λ k zs. refused 22 i)
    (refused 22 i)

unfoldable pub opening_of : List ℕ → Answer Opening
opening_of t = opening_from 1 0 (lines t)

unfoldable pub clauses_in : Answer (List Clause) → List Clause
clauses_in (answered cs) = cs
clauses_in (refused n i) = []

unfoldable pub clauses_of : ℕ → ℕ → List ℕ → List Clause
clauses_of v g t = clauses_in (clauses_at v g most_clauses 0 (lines t))

unfoldable pub AreClauses : ℕ → ℕ → List ℕ → Type 0
AreClauses v g t = clauses_at v g most_clauses 0 (lines t) ≡ answered (clauses_of v g t)
