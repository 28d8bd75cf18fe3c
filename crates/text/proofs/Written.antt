-- The parts of a written text, and their lengths.
--   group_length             a group in braces
--   body_none, body_more     a body, by whether a variable is left
--   head_none, head_some     a head, by whether there is one
--   clause_parts, clause_length      a clause's line
--   clauses_joined           the clauses' lines are one after the other
--   heading_is, heading_size, heading_length      the `p` line, by its three numbers, and how long it is
--   text_length              the whole
--   text_most                the text of a well-formed book is at most 420,000 bytes long
-- Assumes nothing.
use Prim.Native.Nat.{ℕ, zero, suc, ◌+◌, ◌*◌, ◌≤◌}
use mathlib.Core.Path.{◌≡◌, refl, ap, ◌∙◌}
use mathlib.Core.List.{List, [], ◌∷◌, ◌++◌, append_assoc}
use mathlib.Core.Bool.{true}
use native.Mathlib.Omega.{arith}
use lib.ListN.{length, length-append, get_or}
use Rattle.decimal.specs.Digits.{number, after, line}
use Rattle.decimal.proofs.Digits.{number_low, number_length}
use Rattle.decimal.proofs.Putting.{line_length}
use Rattle.field.specs.Words.{within}
use Rattle.field.proofs.Words.{within_cons}
use Rattle.meaning.specs.Book.{Clause, Book}
use Rattle.book.specs.Bytes.{GoodClause, GoodClauses, WellFormed}
use Rattle.book.proofs.Walks.{Joins}
use Rattle.text.specs.Lines.{blank, p_word, gcnf_word}
use Rattle.text.specs.Writing.{group_text, body_text, head_text, clause_text, clauses_text, heading_text, text_of}

pub group_length : (g : ℕ) → length (group_text g) ≡ length (number g) + 2
unfolding group_text
group_length g = omega (arith, length-append (number g) (125 ∷ []))

pub body_none : body_text [] ≡ []
unfolding body_text
body_none = refl

pub body_more : (w : ℕ) (ws : List ℕ) → body_text (w ∷ ws) ≡ (32 ∷ (45 ∷ number w)) ++ body_text ws
unfolding body_text
body_more w ws = refl

pub head_none : (h : ℕ) → h ≡ 0 → head_text h ≡ []
unfolding head_text
head_none zero e = refl
head_none (suc h) e = absurd (omega arith)

pub head_some : (h : ℕ) → (h ≡ 0 → ⊥) → head_text h ≡ after h
unfolding head_text
head_some zero e = absurd (e refl)
head_some (suc h) e = refl

module _ (c : Clause) where
  pub clause_parts : clause_text c ≡ group_text (get_or c.groups 0 0) ++ (body_text c.body ++ (head_text c.head ++ (32 ∷ (48 ∷ (10 ∷ [])))))
  unfolding clause_text line
  clause_parts = simp (append_assoc, number_low 0 (omega arith))

  pub clause_length : length (clause_text c) ≡ length (number (get_or c.groups 0 0)) + length (body_text c.body) + length (head_text c.head) + 5
  clause_length =
      let ends : List ℕ = 32 ∷ (48 ∷ (10 ∷ [])) in
      omega (
        arith,
        ap length clause_parts,
        length-append (group_text (get_or c.groups 0 0)) (body_text c.body ++ (head_text c.head ++ ends)),
        length-append (body_text c.body) (head_text c.head ++ ends),
        length-append (head_text c.head) ends,
        group_length (get_or c.groups 0 0),
      )

pub clauses_joined : Joins clause_text clauses_text
unfolding clauses_text
clauses_joined = record { none = refl; more = λ c cs. refl }

pub heading_is : (b : Book) → heading_text b ≡ line (p_word ++ (blank ∷ gcnf_word)) (after b.variables ++ (after (length b.clauses) ++ after b.groups))
unfolding heading_text
heading_is b = refl

pub heading_size : (v n g : ℕ) → length (line (p_word ++ (blank ∷ gcnf_word)) (after v ++ (after n ++ after g))) ≡ length (number v) + length (number n) + length (number g) + 10
heading_size v n g =
    omega (
      arith,
      line_length (p_word ++ (blank ∷ gcnf_word)) (after v ++ (after n ++ after g)),
      length-append (after v) (after n ++ after g),
      length-append (after n) (after g),
    )

pub heading_length : (b : Book) → length (heading_text b) ≡ length (number b.variables) + length (number (length b.clauses)) + length (number b.groups) + 10
heading_length b = ap length (heading_is b) ∙ heading_size b.variables (length b.clauses) b.groups

pub text_length : (b : Book) → length (text_of b) ≡ length (heading_text b) + length (clauses_text b.clauses)
unfolding text_of
text_length b = length-append (heading_text b) (clauses_text b.clauses)

-- the most that each part can be, where there are at most 1,024 variables and 32 groups
head_most : (h : ℕ) → h ≤ 1024 → length (head_text h) ≤ 5
unfolding head_text
head_most zero l = omega arith
head_most (suc h) l = omega (arith, number_length 3 (suc h) (omega arith))

body_most : (v : ℕ) (ws : List ℕ) → v ≤ 1024 → within 1 v ws ≡ true → length (body_text ws) ≤ 6 * length ws
body_most v [] l e = omega (arith, ap length body_none)
body_most v (w ∷ ws) l e =
    let q = within_cons 1 v w ws e in
    omega (arith, ap length (body_more w ws), length-append (32 ∷ (45 ∷ number w)) (body_text ws), number_length 3 w (omega (arith, q.1)), body_most v ws l q.2)

first_most : (g : ℕ) (gs : List ℕ) → g ≤ 32 → within 0 g gs ≡ true → get_or gs 0 0 ≤ 32
first_most g [] l e = omega arith
first_most g (x ∷ gs) l e = omega (arith, (within_cons 0 g x gs e).1)

clause_most : (v g : ℕ) (c : Clause) → v ≤ 1024 → g ≤ 32 → GoodClause v g c → length (clause_text c) ≤ 204
clause_most v g c lv lg k =
    omega (
      arith,
      clause_length c,
      number_length 1 (get_or c.groups 0 0) (omega (arith, first_most g c.groups lg k.inside)),
      body_most v c.body lv k.variables,
      k.few,
      head_most c.head (omega (arith, k.head)),
    )

clauses_most : (v g : ℕ) (cs : List Clause) → v ≤ 1024 → g ≤ 32 → GoodClauses v g cs → length (clauses_text cs) ≤ 204 * length cs
clauses_most v g [] lv lg k = omega (arith, ap length clauses_joined.none)
clauses_most v g (c ∷ cs) lv lg k =
    omega (
      arith,
      ap length (clauses_joined.more c cs) ∙ length-append (clause_text c) (clauses_text cs),
      clause_most v g c lv lg k.0,
      clauses_most v g cs lv lg k.1,
    )

pub text_most : (b : Book) → WellFormed b → length (text_of b) ≤ 420000
text_most b k =
    omega (
      arith,
      text_length b,
      heading_length b,
      number_length 3 b.variables (omega (arith, k.variables)),
      number_length 3 (length b.clauses) (omega (arith, k.clauses)),
      number_length 1 b.groups (omega (arith, k.groups)),
      clauses_most b.variables b.groups b.clauses k.variables k.groups k.good,
      k.clauses,
    )
