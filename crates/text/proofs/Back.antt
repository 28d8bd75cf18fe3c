-- The text that a book is written as is taken as that book.
--   line_form            what a line of words is, by its words
--   tokens_for ws h       the tokens of a clause's line after its group: the body ws, the head h, 0
--   row c                a clause's line without its line feed
--   row_form             it is that clause
--   clauses_taken        the clauses' lines are taken as the clauses
--   top b                the `p` line without its line feed
--   top_form             it is a `p` line with the book's numbers
--   text_taken           the text is taken as the book
-- Assumes nothing.
use Prim.Native.Nat.{ℕ, zero, suc, ◌+◌, ◌-◌, ◌≤◌, ◌<◌}
use mathlib.Core.Path.{◌≡◌, refl, sym, ap, subst, ◌∙◌}
use mathlib.Core.List.{List, [], ◌∷◌, ◌++◌, append_assoc, append-nil}
use mathlib.Core.Bool.{true, false}
use native.Mathlib.Omega.{arith}
use lib.IntN.{ℤ}
use lib.ListN.{length, get_or}
use borrow.Author.Tests.{le-ltb, eq-eqb, ne_eqb}
use Rattle.answer.specs.Answer.{answered, and_then, first}
use Rattle.answer.proofs.Answers.{then_by, unless_none}
use Rattle.decimal.specs.Digits.{number, after, line}
use Rattle.field.specs.Words.{within}
use Rattle.field.proofs.Words.{within_cons, within_one, one_within}
use Rattle.meaning.specs.Book.{Clause, clause_from, Book}
use Rattle.book.specs.Bytes.{most_variables, most_groups, most_clauses, most_body, GoodClause, GoodClauses, WellFormed}
use Rattle.book.specs.Reading.{with_clauses}
use Rattle.plain.specs.Plain as Plain
use Rattle.text.specs.Lines.{blank, minus_sign, p_word, gcnf_word, pieces, filled, ends, lines, tokens, same}
use Rattle.text.specs.Forms.{heading, clause, by_form, none, literals, closed, clause_line, counts_line, heading_line, form_of, is_comment, line_of}
use Rattle.text.specs.Taking.{heads, bodies, head_in, each, gather, body_in, clause_in, heading_tests, clause_tests, clauses_at, count_tests, following, opening_at, taking_text}
use Rattle.text.specs.Writing.{group_text, body_text, head_text, clause_text, clauses_text, heading_text, text_of}
use Rattle.text.proofs.Pieces.{Free, Word, Words, spaced, tokens_spaced, spaced_free, lines_end, lines_line}
use Rattle.text.proofs.Numbers.{number_digits, number_value, number_word, minus_word, minus_literal, minus_is, plain_literal, plain_is, zero_literal, zero_zero}
use Rattle.text.proofs.Numbers.{group_word, group_is, group_inner}
use Rattle.text.proofs.Gathering.{gather_stays}

line_form : (w : List ℕ) (ts : List (List ℕ)) → Word w → Words ts → is_comment (w ++ spaced ts) ≡ false → line_of (w ++ spaced ts) ≡ form_of (w ∷ ts)
unfolding line_of
line_form w ts h k e = simp (e, tokens_spaced w ts h k)

-- the tokens of a body and a head
unfoldable tokens_for : List ℕ → ℕ → List (List ℕ)
tokens_for [] zero = number 0 ∷ []
tokens_for [] (suc h) = number (suc h) ∷ (number 0 ∷ [])
tokens_for (w ∷ ws) h = (minus_sign ∷ number w) ∷ tokens_for ws h

spaced_for : (ws : List ℕ) (h : ℕ) → body_text ws ++ (head_text h ++ after 0) ≡ spaced (tokens_for ws h)
unfolding body_text head_text spaced tokens_for
spaced_for [] zero = sym (ap (λ (r : List ℕ). blank ∷ r) (append-nil (number 0)))
spaced_for [] (suc h) = ap (λ (r : List ℕ). blank ∷ (number (suc h) ++ (blank ∷ r))) (sym (append-nil (number 0)))
spaced_for (w ∷ ws) h =
    ap (λ (r : List ℕ). blank ∷ (minus_sign ∷ r))
    (append_assoc (number w) (body_text ws) (head_text h ++ after 0) ∙ ap (λ (r : List ℕ). number w ++ r) (spaced_for ws h))

words_for : (ws : List ℕ) (h : ℕ) → Words (tokens_for ws h)
unfolding tokens_for
words_for [] zero = (number_word 0, tt)
words_for [] (suc h) = (number_word (suc h), (number_word 0, tt))
words_for (w ∷ ws) h = (minus_word w, words_for ws h)

closed_for : (v : ℕ) (ws : List ℕ) (h : ℕ) → within 1 v ws ≡ true → closed (tokens_for ws h) ≡ true
unfolding closed none tokens_for
closed_for v [] zero k = simp (zero_literal, zero_zero)
closed_for v [] (suc h) k = simp (plain_literal (suc h) (omega arith), zero_literal, zero_zero)
closed_for v (w ∷ ws) h k = let d = within_cons 1 v w ws k in simp (minus_literal w d.0, closed_for v ws h d.2)

-- the literals are those of the plain form
abbrev literals_for : List ℕ → ℕ → List ℤ
literals_for ws h = Plain.literals ws ++ Plain.head_literal h

literals_for_lem : (v : ℕ) (ws : List ℕ) (h : ℕ) → within 1 v ws ≡ true → literals (tokens_for ws h) ≡ literals_for ws h
unfolding literals tokens_for Plain.each Plain.head_literal
literals_for_lem v [] zero k = simp zero_literal
literals_for_lem v [] (suc h) k = simp (plain_literal (suc h) (omega arith), plain_is (suc h) (omega arith), zero_literal)
literals_for_lem v (w ∷ ws) h k = let d = within_cons 1 v w ws k in simp (minus_literal w d.0, minus_is w d.0, literals_for_lem v ws h d.2)

bodies_for : (v : ℕ) (ws : List ℕ) (h : ℕ) → within 1 v ws ≡ true → bodies (literals_for ws h) ≡ ws
unfolding bodies Plain.each Plain.head_literal
bodies_for v [] zero k = refl
bodies_for v [] (suc h) k = refl
bodies_for v (zero ∷ ws) h k = absurd (omega (arith, (within_cons 1 v zero ws k).0))
bodies_for v (suc n ∷ ws) h k = ap (λ (l : List ℕ). suc n ∷ l) (bodies_for v ws h (within_cons 1 v (suc n) ws k).2)

heads_for : (v : ℕ) (ws : List ℕ) (h : ℕ) → within 1 v ws ≡ true → heads (literals_for ws h) ≡ heads (Plain.head_literal h)
unfolding heads Plain.each
heads_for v [] h k = refl
heads_for v (zero ∷ ws) h k = absurd (omega (arith, (within_cons 1 v zero ws k).0))
heads_for v (suc n ∷ ws) h k = heads_for v ws h (within_cons 1 v (suc n) ws k).2

-- a head that is not 0 is the one positive literal
head_within : (v h : ℕ) → h ≤ v → within 1 v (heads (Plain.head_literal h)) ≡ true
unfolding heads within Plain.head_literal
head_within v zero l = refl
head_within v (suc h) l = one_within 1 v (suc h) (omega arith) l

head_each : (h : ℕ) → each h (heads (Plain.head_literal h)) ≡ true
unfolding each heads Plain.head_literal
head_each zero = refl
head_each (suc h) = simp (eq-eqb (suc h) (suc h) refl)

head_first : (h : ℕ) → head_in (Plain.head_literal h) ≡ h
unfolding heads Plain.head_literal
head_first zero = refl
head_first (suc h) = refl

-- a clause's line
abbrev group_in : Clause → ℕ
group_in c = get_or c.groups 0 0

abbrev row : Clause → List ℕ
row c = group_text (group_in c) ++ spaced (tokens_for c.body c.head)

clause_lines : (c : Clause) (r : List ℕ) → lines (clause_text c ++ r) ≡ row c ∷ lines r
unfolding clause_text
clause_lines c r =
    ap (λ (u : List ℕ). lines (line (group_text (group_in c)) u ++ r)) (spaced_for c.body c.head)
    ∙ lines_line (group_text (group_in c)) (spaced (tokens_for c.body c.head)) r
    (spaced_free (group_text (group_in c)) (tokens_for c.body c.head) (group_word (group_in c)).dark (words_for c.body c.head))

group_form : (g : ℕ) (ts : List (List ℕ)) → Words ts → line_of (group_text g ++ spaced ts) ≡ clause_line (group_text g) ts
unfolding group_text is_comment form_of same
group_form g ts k = line_form (group_text g) ts (group_word g) k refl

one_group : (gs : List ℕ) → length gs ≡ 1 → get_or gs 0 0 ∷ [] ≡ gs
one_group [] e = absurd (omega arith)
one_group (g ∷ []) e = refl
one_group (g ∷ (k ∷ gs)) e = absurd (omega arith)

module _ (v g : ℕ) (c : Clause) (good : GoodClause v g c) where
  abbrev zs : List ℤ
  zs = literals_for c.body c.head

  row_form : line_of (row c) ≡ clause (group_in c) zs
  unfolding clause_line
  row_form =
      group_form (group_in c) (tokens_for c.body c.head) (words_for c.body c.head)
      ∙ simp (
        group_is (group_in c),
        closed_for v c.body c.head good.variables,
        group_inner (group_in c),
        number_value (group_in c),
        literals_for_lem v c.body c.head good.variables,
      )

  head_is : head_in zs ≡ c.head
  head_is = ap (λ (ns : List ℕ). get_or ns 0 0) (heads_for v c.body c.head good.variables) ∙ head_first c.head

  body_is : body_in zs ≡ c.body
  body_is = ap (gather []) (bodies_for v c.body c.head good.variables) ∙ gather_stays 0 c.body good.rises

  clause_is : clause_in (group_in c) zs ≡ c
  clause_is =
      ap (λ (h : ℕ). clause_from (group_in c ∷ []) h (body_in zs)) head_is
      ∙ ap (λ (ws : List ℕ). clause_from (group_in c ∷ []) c.head ws) body_is
      ∙ ap (λ (gs : List ℕ). clause_from gs c.head c.body) (one_group c.groups good.one)

  group_low : group_in c ≤ g
  group_low = within_one 0 g (group_in c) (ap (within 0 g) (one_group c.groups good.one) ∙ good.inside)

  tests_clear : (left : ℕ) → 0 < left → first (clause_tests v g left (group_in c) zs) ≡ 0
  unfolding first
  tests_clear left room =
      simp (
        le-ltb g (group_in c) group_low,
        heads_for v c.body c.head good.variables,
        head_first c.head,
        head_within v c.head good.head,
        bodies_for v c.body c.head good.variables,
        good.variables,
        head_each c.head,
        ne_eqb left 0 (λ e. omega arith),
        gather_stays 0 c.body good.rises,
        le-ltb most_body (length c.body) good.few,
      )

  clause_taken : (left i : ℕ) (ls : List (List ℕ)) → 0 < left
      → clauses_at v g left i (row c ∷ ls) ≡ and_then (clauses_at v g (left - 1) (i + 1) ls) (λ cs. answered (c ∷ cs))
  unfolding clauses_at by_form
  clause_taken left i ls room =
      simp row_form
      (unless_none (first (clause_tests v g left (group_in c) zs)) i _ (tests_clear left room)
      ∙ ap (λ (k : Clause). and_then (clauses_at v g (left - 1) (i + 1) ls) (λ cs. answered (k ∷ cs))) clause_is)

-- after the last line feed there is an empty line
end_taken : (v g left i : ℕ) → clauses_at v g left i ([] ∷ []) ≡ answered []
unfolding clauses_at by_form line_of is_comment tokens pieces filled form_of
end_taken v g left i = refl

clauses_taken : (v g left i : ℕ) (cs : List Clause) → GoodClauses v g cs → length cs ≤ left → clauses_at v g left i (lines (clauses_text cs)) ≡ answered cs
unfolding clauses_text
clauses_taken v g left i [] h l = ap (clauses_at v g left i) lines_end ∙ end_taken v g left i
clauses_taken v g left i (c ∷ cs) h l =
    ap (clauses_at v g left i) (clause_lines c (clauses_text cs))
    ∙ clause_taken v g c h.0 left i (lines (clauses_text cs)) (omega arith)
    ∙ then_by (clauses_at v g (left - 1) (i + 1) (lines (clauses_text cs))) cs (λ ds. answered (c ∷ ds)) (clauses_taken v g (left - 1) (i + 1) cs h.1 (omega arith))

-- the `p` line
abbrev top_words : Book → List (List ℕ)
top_words b = gcnf_word ∷ (number b.variables ∷ (number (length b.clauses) ∷ (number b.groups ∷ [])))

abbrev top : Book → List ℕ
top b = p_word ++ spaced (top_words b)

p_word_lem : Word p_word
p_word_lem = record { some = omega arith; dark = (omega arith, tt) }

gcnf_word_lem : Word gcnf_word
gcnf_word_lem = record { some = omega arith; dark = (omega arith, (omega arith, (omega arith, (omega arith, tt)))) }

top_words_lem : (b : Book) → Words (top_words b)
top_words_lem b = (gcnf_word_lem, (number_word b.variables, (number_word (length b.clauses), (number_word b.groups, tt))))

top_is : (b : Book) → (p_word ++ (blank ∷ gcnf_word)) ++ (after b.variables ++ (after (length b.clauses) ++ after b.groups)) ≡ top b
unfolding spaced
top_is b =
    ap (λ (r : List ℕ). (p_word ++ (blank ∷ gcnf_word)) ++ (after b.variables ++ (after (length b.clauses) ++ (blank ∷ r)))) (sym (append-nil (number b.groups)))

heading_lines : (b : Book) (r : List ℕ) → lines (heading_text b ++ r) ≡ top b ∷ lines r
unfolding heading_text
heading_lines b r =
    let rest = after b.variables ++ (after (length b.clauses) ++ after b.groups) in
    let free : Free ends ((p_word ++ (blank ∷ gcnf_word)) ++ rest) = subst (Free ends) (sym (top_is b)) (spaced_free p_word (top_words b) p_word_lem.dark (top_words_lem b)) in
    lines_line (p_word ++ (blank ∷ gcnf_word)) rest r free ∙ ap (λ (l : List ℕ). l ∷ lines r) (top_is b)

top_form : (b : Book) → line_of (top b) ≡ heading b.variables (length b.clauses) b.groups
unfolding is_comment form_of heading_line counts_line same
top_form b =
    line_form p_word (top_words b) p_word_lem (top_words_lem b) refl
    ∙ simp (number_digits, number_value)

module _ (b : Book) (good : WellFormed b) where
  heading_clear : first (heading_tests b.variables (length b.clauses) b.groups) ≡ 0
  unfolding first
  heading_clear =
      simp (
        le-ltb b.variables 1 good.some,
        le-ltb most_variables b.variables good.variables,
        le-ltb most_groups b.groups good.groups,
        le-ltb most_clauses (length b.clauses) good.clauses,
      )

  count_clear : first (count_tests (length b.clauses) b.clauses) ≡ 0
  unfolding first
  count_clear = simp (eq-eqb (length b.clauses) (length b.clauses) refl)

  following_taken : following b.variables (length b.clauses) b.groups 1 (lines (clauses_text b.clauses)) ≡ answered b
  unfolding following
  following_taken =
      then_by (clauses_at b.variables b.groups most_clauses 2 (lines (clauses_text b.clauses))) b.clauses _
      (clauses_taken b.variables b.groups most_clauses 2 b.clauses good.good good.clauses)
      ∙ unless_none (first (count_tests (length b.clauses) b.clauses)) 1 (with_clauses b.variables b.groups b.clauses) count_clear

  opening_taken : (ls : List (List ℕ)) → opening_at 1 (top b ∷ ls) ≡ following b.variables (length b.clauses) b.groups 1 ls
  unfolding opening_at by_form
  opening_taken ls = simp (top_form b) (unless_none (first (heading_tests b.variables (length b.clauses) b.groups)) 1 _ heading_clear)

  pub text_taken : taking_text (text_of b) ≡ answered b
  unfolding taking_text text_of
  text_taken = ap (opening_at 1) (heading_lines b (clauses_text b.clauses)) ∙ opening_taken (lines (clauses_text b.clauses)) ∙ following_taken
