-- The forms of a line.
--   Line             skipped (a comment, or blank), heading v n g (the `p` line: v variables, n clauses, the last group g), clause g zs (group g, the literals zs), formless
--   by_form           what is given for each of them
--   none ts          there is no token
--   literals ts      the literals in front of some tokens
--   closed ts        what follows these is a 0, and nothing after it
--   clause_line w ts  a line whose first token is w, no `p`, and the others ts: a clause where w is a group and ts are literals and 0; else formless
--   counts_line ts    the three numbers of a `p` line
--   heading_line ts   a line that begins with `p`, by what follows
--   form_of ts        a line by its tokens
--   is_comment l      a line that begins with c
--   line_of l         what a line is
-- Assumes nothing: these are definitions.
use Rattle.std.specs.Prelude.{ℕ, List, [], ◌∷◌, Bool, true, false, ◌&&◌, cond, ℤ, get_or, eqb}
use Rattle.text.specs.Lines.{letter_c, p_word, gcnf_word, tokens, same, digits, value, is_literal, literal_of, is_zero, inner, is_group}

pub data Line : Type 0 where
  skipped : Line
  heading : ℕ → ℕ → ℕ → Line
  clause : ℕ → List ℤ → Line
  formless : Line

unfoldable pub by_form : {A : Type 0} → Line → A → (ℕ → ℕ → ℕ → A) → (ℕ → List ℤ → A) → A → A
by_form skipped a f h b = a
by_form (heading v n g) a f h b = f v n g
by_form (clause g zs) a f h b = h g zs
by_form formless a f h b = b

unfoldable pub none : List (List ℕ) → Bool
none [] = true
none (w ∷ ts) = false

unfoldable pub literals : List (List ℕ) → List ℤ
literals [] = []
literals (w ∷ ts) = cond (is_literal w) (literal_of w ∷ literals ts) []

unfoldable pub closed : List (List ℕ) → Bool
closed [] = false
closed (w ∷ ts) = cond (is_literal w) (closed ts) (is_zero w && none ts)

unfoldable pub clause_line : List ℕ → List (List ℕ) → Line
clause_line w ts = cond (is_group w && closed ts) (clause (value (inner w)) (literals ts)) formless

unfoldable pub counts_line : List (List ℕ) → Line
counts_line [] = formless
counts_line (a ∷ []) = formless
counts_line (a ∷ (b ∷ [])) = formless
counts_line (a ∷ (b ∷ (c ∷ []))) = cond (digits a && (digits b && digits c)) (heading (value a) (value b) (value c)) formless
counts_line (a ∷ (b ∷ (c ∷ (d ∷ ts)))) = formless

unfoldable pub heading_line : List (List ℕ) → Line
heading_line [] = formless
heading_line (w ∷ ts) = cond (same w gcnf_word) (counts_line ts) formless

unfoldable pub form_of : List (List ℕ) → Line
form_of [] = skipped
form_of (w ∷ ts) = cond (same w p_word) (heading_line ts) (clause_line w ts)

unfoldable pub is_comment : List ℕ → Bool
is_comment l = eqb (get_or l 0 0) letter_c

unfoldable pub line_of : List ℕ → Line
line_of l = cond (is_comment l) skipped (form_of (tokens l))
