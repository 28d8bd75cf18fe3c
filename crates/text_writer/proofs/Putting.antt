-- Writing the parts of a text, one after the other.
--   heading_wrote, heading_numbers      the `p` line, and how long it is
--   group_wrote                a group in braces
--   clause_wrote, clause_size  a clause's line, and how long it is
--   body_joined                a body's literals are one after the other
-- Assumes nothing.
use Prim.Native.Nat.{ℕ, ◌+◌}
use mathlib.Core.Path.{◌≡◌, sym, ap, ◌∙◌}
use mathlib.Core.List.{List, [], ◌∷◌, ◌++◌}
use lib.ListN.{length, get_or}
use Rattle.answer.specs.Space.{Wrote}
use Rattle.answer.proofs.Spaces.{wrote_append}
use Rattle.decimal.specs.Digits.{number, after, line}
use Rattle.decimal.proofs.Putting.{wrote_as, line_wrote}
use Rattle.meaning.specs.Book.{Book, clause_from}
use Rattle.book.proofs.Walks.{Joins}
use Rattle.text.specs.Lines.{blank, p_word, gcnf_word}
use Rattle.text.specs.Writing.{group_text, body_text, head_text, clause_text, heading_text}
use Rattle.text.proofs.Written.{heading_is, heading_length, body_none, body_more, clause_parts, clause_length}

-- a book, and the numbers of its `p` line
module _ (b : Book) (v n g : ℕ) (ev : v ≡ b.variables) (en : n ≡ length b.clauses) (eg : g ≡ b.groups) where
  heading_of : line (p_word ++ (blank ∷ gcnf_word)) (after v ++ (after n ++ after g)) ≡ heading_text b
  heading_of = simp (ev, eg, en) (sym (heading_is b))

  pub heading_numbers : length (heading_text b) ≡ length (number v) + length (number n) + length (number g) + 10
  heading_numbers = simp (ev, eg, en) (heading_length b)

  pub heading_wrote : (l : List ℕ) (i : ℕ) (o1 : List ℕ) (a : ℕ) (o2 : List ℕ) (b1 : ℕ) (o3 : List ℕ) (c : ℕ) (o4 : List ℕ) (d : ℕ) (o5 : List ℕ) (e : ℕ)
      → Wrote l i (p_word ++ (blank ∷ gcnf_word)) o1 a → Wrote o1 a (after v) o2 b1 → Wrote o2 b1 (after n) o3 c → Wrote o3 c (after g) o4 d → Wrote o4 d (10 ∷ []) o5 e
      → Wrote l i (heading_text b) o5 e
  heading_wrote l i o1 a o2 b1 o3 c o4 d o5 e p q r s t =
      wrote_as l i _ _ o5 e heading_of
      (line_wrote l i (p_word ++ (blank ∷ gcnf_word)) o1 a (after v ++ (after n ++ after g)) o4 d o5 e p
      (wrote_append o1 a (after v) o2 b1 (after n ++ after g) o4 d q (wrote_append o2 b1 (after n) o3 c (after g) o4 d r s)) t)

pub group_wrote : (g : ℕ) (l : List ℕ) (i : ℕ) (o1 : List ℕ) (a : ℕ) (o2 : List ℕ) (b : ℕ) (o3 : List ℕ) (c : ℕ)
    → Wrote l i (123 ∷ []) o1 a → Wrote o1 a (number g) o2 b → Wrote o2 b (125 ∷ []) o3 c → Wrote l i (group_text g) o3 c
unfolding group_text
group_wrote g l i o1 a o2 b o3 c p q r = wrote_append l i (123 ∷ []) o1 a (number g ++ (125 ∷ [])) o3 c p (wrote_append o1 a (number g) o2 b (125 ∷ []) o3 c q r)

pub clause_wrote : (gs : List ℕ) (h : ℕ) (ws : List ℕ) (g : ℕ) (l : List ℕ) (i : ℕ) (o1 : List ℕ) (a : ℕ) (o2 : List ℕ) (b : ℕ) (o3 : List ℕ) (c : ℕ) (o4 : List ℕ) (d : ℕ)
    → get_or gs 0 0 ≡ g → Wrote l i (group_text g) o1 a → Wrote o1 a (body_text ws) o2 b → Wrote o2 b (head_text h) o3 c → Wrote o3 c (32 ∷ (48 ∷ (10 ∷ []))) o4 d
    → Wrote l i (clause_text (clause_from gs h ws)) o4 d
clause_wrote gs h ws g l i o1 a o2 b o3 c o4 d e p q r s =
    let rest = head_text h ++ (32 ∷ (48 ∷ (10 ∷ []))) in
    let whole : group_text g ++ (body_text ws ++ rest) ≡ clause_text (clause_from gs h ws) = ap (λ (k : ℕ). group_text k ++ (body_text ws ++ rest)) (sym e) ∙ sym (clause_parts (clause_from gs h ws)) in
    wrote_as l i _ _ o4 d whole (wrote_append l i (group_text g) o1 a (body_text ws ++ rest) o4 d p (wrote_append o1 a (body_text ws) o2 b rest o4 d q (wrote_append o2 b (head_text h) o3 c _ o4 d r s)))

pub clause_size : (gs : List ℕ) (h : ℕ) (ws : List ℕ) (g : ℕ) → get_or gs 0 0 ≡ g → length (clause_text (clause_from gs h ws)) ≡ length (number g) + length (body_text ws) + length (head_text h) + 5
clause_size gs h ws g e = clause_length (clause_from gs h ws) ∙ ap (λ (k : ℕ). length (number k) + length (body_text ws) + length (head_text h) + 5) e

-- a literal of a body
abbrev pub literal_text : ℕ → List ℕ
literal_text w = 32 ∷ (45 ∷ number w)

pub body_joined : Joins literal_text body_text
body_joined = record { none = body_none; more = body_more }
