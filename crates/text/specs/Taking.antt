-- How a text is taken: the book that it is, or the refusal with its number and the number of the line at fault, from 1; 0 where there is no `p` line.
-- `i` is the number of the next line, and `ls` are the lines from there on.
--   heads zs, bodies zs      the positive of some literals; the negative ones, without their minus
--   head_in zs                the first positive literal; 0 for none
--   each h ns                each of some numbers is h
--   insert n ws              n put into rising numbers, once
--   gather ws ns             some numbers so put in, one after the other
--   body_in zs                the negative literals without their minus, rising, each once
--   clause_in g zs            the clause of group g with those literals
--   heading_tests v n g       what is tested of a `p` line
--   clause_tests v g left k zs      what is tested of a clause of group k, where there are v variables and g groups and room is left for so many clauses
--   clauses_at v g left i ls  clause by clause up to the end
--   count_tests n cs          what is tested at the end, where n clauses were announced
--   following v n g i ls     what follows the `p` line, which is line i
--   opening_at i ls           the lines up to the `p` line, and what follows
--   taking_text t             the whole
-- Assumes nothing: these are definitions.
use Rattle.std.specs.Prelude.{ℕ, suc, ◌+◌, ◌-◌, List, [], ◌∷◌, Bool, true, not, ◌&&◌, cond, ℤ, pos, negsuc, length, get_or, ltb, eqb}
use Rattle.answer.specs.Answer.{Answer, answered, refused, and_then, Test, ◌⇒◌, first, unless}
use Rattle.field.specs.Words.{within}
use Rattle.meaning.specs.Book.{Clause, clause_from, Book}
use Rattle.book.specs.Bytes.{most_variables, most_groups, most_clauses, most_body}
use Rattle.book.specs.Reading.{with_clauses}
use Rattle.text.specs.Lines.{lines}
use Rattle.text.specs.Forms.{by_form, line_of}

unfoldable pub heads : List ℤ → List ℕ
heads [] = []
heads (pos n ∷ zs) = n ∷ heads zs
heads (negsuc n ∷ zs) = heads zs

unfoldable pub bodies : List ℤ → List ℕ
bodies [] = []
bodies (pos n ∷ zs) = bodies zs
bodies (negsuc n ∷ zs) = suc n ∷ bodies zs

abbrev pub head_in : List ℤ → ℕ
head_in zs = get_or (heads zs) 0 0

unfoldable pub each : ℕ → List ℕ → Bool
each h [] = true
each h (n ∷ ns) = eqb n h && each h ns

unfoldable pub insert : ℕ → List ℕ → List ℕ
insert n [] = n ∷ []
insert n (w ∷ ws) = cond (ltb n w) (n ∷ (w ∷ ws)) (cond (eqb n w) (w ∷ ws) (w ∷ insert n ws))

unfoldable pub gather : List ℕ → List ℕ → List ℕ
gather ws [] = ws
gather ws (n ∷ ns) = gather (insert n ws) ns

abbrev pub body_in : List ℤ → List ℕ
body_in zs = gather [] (bodies zs)

abbrev pub clause_in : ℕ → List ℤ → Clause
clause_in g zs = clause_from (g ∷ []) (head_in zs) (body_in zs)

abbrev pub heading_tests : ℕ → ℕ → ℕ → List Test
heading_tests v n g = (ltb v 1 ⇒ 7) ∷ (ltb most_variables v ⇒ 7) ∷ (ltb most_groups g ⇒ 7) ∷ (ltb most_clauses n ⇒ 7) ∷ []

abbrev pub clause_tests : ℕ → ℕ → ℕ → ℕ → List ℤ → List Test
clause_tests v g left k zs =
    (ltb g k ⇒ 7)
    ∷ (not (within 1 v (heads zs)) ⇒ 7)
    ∷ (not (within 1 v (bodies zs)) ⇒ 7)
    ∷ (not (each (head_in zs) (heads zs)) ⇒ 20)
    ∷ (eqb left 0 ⇒ 6)
    ∷ (ltb most_body (length (body_in zs)) ⇒ 5)
    ∷ []

unfoldable pub clauses_at : ℕ → ℕ → ℕ → ℕ → List (List ℕ) → Answer (List Clause)
clauses_at v g left i [] = answered []
clauses_at v g left i (l ∷ ls) =
    by_form (line_of l)
    (clauses_at v g left (i + 1) ls)
    (λ v' n' g'. refused 22 i)
    (λ k zs. unless (first (clause_tests v g left k zs)) i (and_then (clauses_at v g (left - 1) (i + 1) ls) (λ cs. answered (clause_in k zs ∷ cs))))
    (refused 22 i)

abbrev pub count_tests : ℕ → List Clause → List Test
count_tests n cs = (not (eqb (length cs) n) ⇒ 21) ∷ []

unfoldable pub following : ℕ → ℕ → ℕ → ℕ → List (List ℕ) → Answer Book
following v n g i ls = and_then (clauses_at v g most_clauses (i + 1) ls) (λ cs. unless (first (count_tests n cs)) i (with_clauses v g cs))

unfoldable pub opening_at : ℕ → List (List ℕ) → Answer Book
opening_at i [] = refused 22 0
opening_at i (l ∷ ls) =
    by_form (line_of l)
    (opening_at (i + 1) ls)
    (λ v n g. unless (first (heading_tests v n g)) i (following v n g i ls))
    (λ k zs. refused 22 i)
    (refused 22 i)

unfoldable pub taking_text : List ℕ → Answer Book
taking_text t = opening_at 1 (lines t)
