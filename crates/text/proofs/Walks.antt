-- How a text is taken, by the line in front.
--   empty_skipped            an empty line is skipped
--   clauses_skipped, clauses_heading, clauses_clause, clauses_formless      after the `p` line
--   clauses_any              what is answered does not rest on the line's number
--   opening_skipped, opening_heading, opening_clause, opening_formless      up to the `p` line
--   Alike ls ls'             the same lines, or none and one that is empty
--   clauses_alike, opening_alike      which are taken alike
-- Assumes nothing.
use Prim.Native.Nat.{ℕ, ◌+◌, ◌-◌}
use mathlib.Core.Path.{◌≡◌, refl, sym, ap, ◌∙◌}
use mathlib.Core.Logic.{◌⊎◌, inl, inr}
use mathlib.Core.List.{List, [], ◌∷◌}
use lib.IntN.{ℤ}
use Rattle.answer.specs.Answer.{answered, refused, and_then, first, unless}
use Rattle.answer.proofs.Answers.{then_by, then_is, unless_none, unless_is, never}
use Rattle.meaning.specs.Book.{Clause}
use Rattle.text.specs.Lines.{pieces, filled, tokens}
use Rattle.text.specs.Forms.{Line, skipped, heading, clause, formless, by_form, form_of, is_comment, line_of}
use Rattle.text.specs.Taking.{clause_in, heading_tests, clause_tests, clauses_at, following, opening_at}

pub empty_skipped : line_of [] ≡ skipped
unfolding line_of is_comment form_of tokens filled pieces
empty_skipped = refl

module _ (v g left i : ℕ) (l : List ℕ) (ls : List (List ℕ)) where
  pub clauses_skipped : line_of l ≡ skipped → clauses_at v g left i (l ∷ ls) ≡ clauses_at v g left (i + 1) ls
  unfolding clauses_at by_form
  clauses_skipped e = rw e

  pub clauses_heading : (v' n' g' : ℕ) → line_of l ≡ heading v' n' g' → clauses_at v g left i (l ∷ ls) ≡ refused 22 i
  unfolding clauses_at by_form
  clauses_heading v' n' g' e = rw e

  pub clauses_formless : line_of l ≡ formless → clauses_at v g left i (l ∷ ls) ≡ refused 22 i
  unfolding clauses_at by_form
  clauses_formless e = rw e

  pub clauses_clause : (k : ℕ) (zs : List ℤ) → line_of l ≡ clause k zs → clauses_at v g left i (l ∷ ls)
      ≡ unless (first (clause_tests v g left k zs)) i (and_then (clauses_at v g (left - 1) (i + 1) ls) (λ cs. answered (clause_in k zs ∷ cs)))
  unfolding clauses_at by_form
  clauses_clause k zs e = rw e

module _ (i : ℕ) (l : List ℕ) (ls : List (List ℕ)) where
  pub opening_skipped : line_of l ≡ skipped → opening_at i (l ∷ ls) ≡ opening_at (i + 1) ls
  unfolding opening_at by_form
  opening_skipped e = rw e

  pub opening_heading : (v n g : ℕ) → line_of l ≡ heading v n g → opening_at i (l ∷ ls) ≡ unless (first (heading_tests v n g)) i (following v n g i ls)
  unfolding opening_at by_form
  opening_heading v n g e = rw e

  pub opening_clause : (k : ℕ) (zs : List ℤ) → line_of l ≡ clause k zs → opening_at i (l ∷ ls) ≡ refused 22 i
  unfolding opening_at by_form
  opening_clause k zs e = rw e

  pub opening_formless : line_of l ≡ formless → opening_at i (l ∷ ls) ≡ refused 22 i
  unfolding opening_at by_form
  opening_formless e = rw e

pub clauses_any : (v g left i j : ℕ) (ls : List (List ℕ)) (cs : List Clause) → clauses_at v g left i ls ≡ answered cs → clauses_at v g left j ls ≡ answered cs
unfolding clauses_at
clauses_any v g left i j [] cs e = e
clauses_any v g left i j (l ∷ ls) cs e = go (line_of l) refl (λ k ds d. clauses_any v g k (i + 1) (j + 1) ls ds d)
  where
    go : (f : Line) → line_of l ≡ f
        → ((k : ℕ) (ds : List Clause) → clauses_at v g k (i + 1) ls ≡ answered ds → clauses_at v g k (j + 1) ls ≡ answered ds)
        → clauses_at v g left j (l ∷ ls) ≡ answered cs
    go skipped f on = clauses_skipped v g left j l ls f ∙ on left cs (sym (clauses_skipped v g left i l ls f) ∙ e)
    go (heading v' n' g') f on = absurd (never cs 22 i (sym e ∙ clauses_heading v g left i l ls v' n' g' f))
    go formless f on = absurd (never cs 22 i (sym e ∙ clauses_formless v g left i l ls f))
    go (clause k zs) f on =
        let u = unless_is _ i _ cs (sym (clauses_clause v g left i l ls k zs f) ∙ e) in
        let d = then_is (clauses_at v g (left - 1) (i + 1) ls) (λ ds. answered (clause_in k zs ∷ ds)) cs u.1 in
        clauses_clause v g left j l ls k zs f
        ∙ unless_none _ j _ u.0
        ∙ then_by _ d.0 _ (on (left - 1) d.0 d.1)
        ∙ d.2

-- the last line feed may be missing
abbrev pub Alike : List (List ℕ) → List (List ℕ) → Type 0
Alike ls ls' = (ls ≡ ls') ⊎ ((ls ≡ []) × (ls' ≡ [] ∷ []))

pub clauses_alike : (v g left i : ℕ) (ls ls' : List (List ℕ)) → Alike ls ls' → clauses_at v g left i ls ≡ clauses_at v g left i ls'
unfolding clauses_at
clauses_alike v g left i ls ls' (inl e) = ap (clauses_at v g left i) e
clauses_alike v g left i ls ls' (inr e) = simp (e.0, e.1) (sym (clauses_skipped v g left i [] [] empty_skipped))

pub opening_alike : (i : ℕ) (ls ls' : List (List ℕ)) → Alike ls ls' → opening_at i ls ≡ opening_at i ls'
unfolding opening_at
opening_alike i ls ls' (inl e) = ap (opening_at i) e
opening_alike i ls ls' (inr e) = simp (e.0, e.1) (sym (opening_skipped i [] [] empty_skipped))
