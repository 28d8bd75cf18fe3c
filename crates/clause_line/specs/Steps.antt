-- What a line after the `p` line adds, and what its literals leave in the words that were lent for the body.
--   capped zs              literals as far as two bytes hold them
--   place_of ws n           how many of some numbers stand before the first that is not below n
--   put_in k n ws           n put in before the number at place k
--   enough, inserted_of ws n      the rising numbers ws with n put in, unless there are 33: with so many the body is too long anyway
--   kept ws ns             numbers so put into rising ones
--   kept_of zs              the body of some literals, up to 33 numbers
--   beyond v zs            a literal is beyond v variables
--   literals_of v zs        what is found of some literals
--   scan_of v ts            the literals of a clause, by its tokens after the group, if these end as a clause does
--   found_tests far several left count      what is tested of a clause, by what was found: something far, that is beyond the groups or the variables; several heads
--   told r                  a result, with the refusal's number in place of its cause
--   step_unless n r         a result, unless a refusal stands against it
--   step_from g left k s    what a clause of group k adds, by what its literals were found to be
--   step_of v g left l      what line l adds, nothing or a clause, where there are v variables and g groups and room is left for so many clauses
--   body_from s l old       the words for the body, after a line that begins as s
--   body_after l old        the words for the body, after line l
-- Assumes nothing: these are definitions.
use Rattle.std.specs.Prelude.{ℕ, zero, suc, List, [], ◌∷◌, ◌++◌, Bool, not, ◌||◌, cond, Option, None, Some, Result, Ok, Err, ℤ, pos, negsuc, length, take, drop, ltb, eqb}
use Rattle.std.specs.Result.{result_map_both}
use Rattle.answer.specs.Answer.{Test, ◌⇒◌, first}
use Rattle.answer.specs.Refusals.{number_of}
use Rattle.answer.specs.declared.Cause.{Cause}
use Rattle.answer.specs.Space.{over}
use Rattle.field.specs.Words.{within}
use Rattle.book.specs.Bytes.{most_body}
use Rattle.plain.specs.Plain.{minus}
use Rattle.text.specs.Lines.{tokens}
use Rattle.text.specs.Forms.{literals, closed, by_form, line_of}
use Rattle.text.specs.Taking.{heads, bodies, head_in, each, insert, body_in, clause_tests}
use Rattle.line.specs.Tokens.{cap}
use Rattle.line.specs.Starts.{start_of}
use Rattle.line.specs.declared.Start.{Start}
use Rattle.line.specs.declared.Start.TheVariants as StartV
use Rattle.clause_line.specs.declared.Scan.{Scan}
use Rattle.clause_line.specs.declared.Clause.{Clause}

unfoldable pub capped : List ℤ → List ℤ
capped [] = []
capped (pos n ∷ zs) = pos (cap n) ∷ capped zs
capped (negsuc n ∷ zs) = minus (cap (suc n)) ∷ capped zs

unfoldable pub place_of : List ℕ → ℕ → ℕ
place_of [] n = 0
place_of (w ∷ ws) n = cond (ltb w n) (suc (place_of ws n)) 0

abbrev pub put_in : ℕ → ℕ → List ℕ → List ℕ
put_in k n ws = take k ws ++ (n ∷ drop k ws)

abbrev pub enough : ℕ
enough = 33

unfoldable pub inserted_of : List ℕ → ℕ → List ℕ
inserted_of ws n = cond (eqb (length ws) enough) ws (insert n ws)

unfoldable pub kept : List ℕ → List ℕ → List ℕ
kept ws [] = ws
kept ws (n ∷ ns) = kept (inserted_of ws n) ns

abbrev pub kept_of : List ℤ → List ℕ
kept_of zs = kept [] (bodies zs)

unfoldable pub beyond : ℕ → List ℤ → Bool
beyond v zs = not (within 1 v (heads zs)) || not (within 1 v (bodies zs))

abbrev pub literals_of : ℕ → List ℤ → Scan
literals_of v zs = record { beyond = beyond v zs; several = not (each (head_in zs) (heads zs)); head = head_in zs; count = length (kept_of zs) }

unfoldable pub scan_of : ℕ → List (List ℕ) → Option Scan
scan_of v ts = cond (closed ts) (Some (literals_of v (capped (literals ts)))) None

abbrev pub told : {A : Type 0} → Result A Cause → Result A ℕ
told r = result_map_both (λ a. a) number_of r

unfoldable pub step_unless : {A : Type 0} → ℕ → Result A ℕ → Result A ℕ
step_unless zero r = r
step_unless (suc n) r = Err (suc n)

abbrev pub found_tests : Bool → Bool → ℕ → ℕ → List Test
found_tests far several left count = (far ⇒ 7) ∷ (several ⇒ 20) ∷ (eqb left 0 ⇒ 6) ∷ (ltb most_body count ⇒ 5) ∷ []

unfoldable pub step_from : ℕ → ℕ → ℕ → Option Scan → Result Clause ℕ
step_from g left k None = Err 22
step_from g left k (Some s) =
    step_unless (first (found_tests (ltb g k || s.beyond) s.several left s.count)) (Ok (record { group = k; head = s.head; count = s.count }))

unfoldable pub step_of : ℕ → ℕ → ℕ → List ℕ → Result (Option Clause) ℕ
step_of v g left l =
    by_form (line_of l) (Ok None) (λ v' n' g'. Err 22)
    (λ k zs. step_unless (first (clause_tests v g left k zs)) (Ok (Some (record { group = k; head = head_in zs; count = length (body_in zs) }))))
    (Err 22)

unfoldable pub body_from : Option Start → List ℕ → List ℕ → List ℕ
body_from (Some (StartV.Clause k next)) l old = over (kept_of (capped (literals (tokens (drop next l))))) old
body_from (Some StartV.Skipped) l old = old
body_from (Some (StartV.Heading h)) l old = old
body_from None l old = old

unfoldable pub body_after : List ℕ → List ℕ → List ℕ
body_after l old = body_from (start_of l) l old
