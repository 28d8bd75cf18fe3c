-- The lines up to the `p` line, and what the opening that was found says about the whole text.
--   heading_capped           the numbers of a `p` line as far as two bytes hold them: as good as the true ones
--   heading_some, heading_none      what a `p` line is found to be, by what is wrong
--   Seeking all t i          the invariant of `open_text`: t is what is left of all, from line i on
--   seeking_start, seeking_skipped, seeking_heading, seeking_clause, seeking_formless, seeking_end      its turns
--   Opened i at t o          the text t, which begins at place `at` with line i, has this `p` line, and its clauses are in what follows
--   opened_small             the `p` line's number and what follows it together are no more than the text's bytes and 1
--   opening_refused, opening_found      what the opening of a whole text says
-- Assumes nothing.
use Prim.Native.Nat.{ℕ, zero, suc, ◌+◌, ◌-◌, ◌≤◌, ◌<◌}
use mathlib.Core.Path.{◌≡◌, refl, sym, ap, ◌∙◌, subst}
use mathlib.Core.Logic.{inl, inr}
use mathlib.Core.List.{List, [], ◌∷◌}
use mathlib.Core.Bool.{Bool, true, false, cond}
use native.Mathlib.Omega.{arith}
use lib.IntN.{ℤ}
use lib.ListN.{length, take, drop, length-drop}
use lib.Seq.{drop-drop}
use lib.Dec.{ltb}
use borrow.Author.Tests.{lt-ltb, le-ltb, ltb-true, ltb-false}
use Rattle.std.specs.Prelude.{None, Some}
use Rattle.answer.specs.Answer.{Answer, answered, refused, first, unless}
use Rattle.answer.proofs.Answers.{unless_none, unless_some}
use Rattle.answer.proofs.Tests.{first_clear}
use Rattle.field.proofs.Parts.{part_end}
use Rattle.text.specs.Lines.{ends, lines, pieces, tokens}
use Rattle.text.specs.Forms.{Line, skipped, heading, clause, formless, by_form, literals, closed, line_of}
use Rattle.text.specs.Taking.{heading_tests, following, opening_at, taking_text}
use Rattle.text.proofs.Walks.{empty_skipped, opening_skipped, opening_heading, opening_clause, opening_formless, Alike, clauses_alike, opening_alike}
use Rattle.line.specs.Tokens.{cap, run_of}
use Rattle.line.specs.Starts.{start_of}
use Rattle.line.specs.declared.Heading.{Heading}
use Rattle.line.specs.declared.Start.TheVariants as StartV
use Rattle.line.proofs.Starts.{start_none, start_skipped, start_heading, start_clause}
use Rattle.text_reader.specs.Steps.{past_of, line_size, line_in, after_line, heading_of, opening_from, opening_of}
use Rattle.text_reader.specs.declared.Opening.{Opening}
use Rattle.text_reader.proofs.Turns.{Turn, turn}

-- a limit is far below what two bytes hold
low_capped : (x : ℕ) → ltb (cap x) 1 ≡ ltb x 1
low_capped x = go (ltb x 1) refl
  where
    go : (b : Bool) → ltb x 1 ≡ b → ltb (cap x) 1 ≡ b
    go true e = let h = ltb-true x 1 e in lt-ltb (cap x) 1 (omega (arith, h))
    go false e = let h = ltb-false x 1 e in le-ltb (cap x) 1 (omega (arith, h))

high_capped : (m x : ℕ) → m < 65535 → ltb m (cap x) ≡ ltb m x
high_capped m x s = go (ltb m x) refl
  where
    go : (b : Bool) → ltb m x ≡ b → ltb m (cap x) ≡ b
    go true e = let h = ltb-true m x e in lt-ltb m (cap x) (omega (arith, h, s))
    go false e = let h = ltb-false m x e in le-ltb m (cap x) (omega (arith, h))

abbrev pub numbers : ℕ → ℕ → ℕ → Heading
numbers v n g = record { variables = v; clauses = n; groups = g }

tests_capped : (v n g : ℕ) → first (heading_tests (cap v) (cap n) (cap g)) ≡ first (heading_tests v n g)
tests_capped v n g = simp (low_capped v, high_capped 1024 v (omega arith), high_capped 32 g (omega arith), high_capped 2048 n (omega arith))

-- nothing is wrong: so the numbers are small
small : (v n g : ℕ) → first (heading_tests v n g) ≡ 0 → (v ≤ 1024) × (n ≤ 2048) × (g ≤ 32)
small v n g e = let c = first_clear (heading_tests v n g) e in (ltb-false 1024 v c.1.0, ltb-false 2048 n c.1.1.1.0, ltb-false 32 g c.1.1.0)

module _ (h : Heading) (i next : ℕ) where
  pub heading_some : (k : ℕ) → k ≡ first (heading_tests h.variables h.clauses h.groups) → (k ≡ 0 → ⊥) → refused k i ≡ heading_of h i next
  unfolding heading_of
  heading_some k e z = sym (unless_some k _ i _ e z)

  pub heading_none : first (heading_tests h.variables h.clauses h.groups) ≡ 0 → answered (record { heading = h; line = i; next = next }) ≡ heading_of h i next
  unfolding heading_of
  heading_none e = sym (unless_none _ i _ e)

pub heading_capped : (v n g i next : ℕ) → heading_of (numbers (cap v) (cap n) (cap g)) i next ≡ heading_of (numbers v n g) i next
heading_capped v n g i next = go (first (heading_tests v n g)) refl
  where
    go : (k : ℕ) → first (heading_tests v n g) ≡ k → heading_of (numbers (cap v) (cap n) (cap g)) i next ≡ heading_of (numbers v n g) i next
    go (suc k) e =
        sym (heading_some (numbers (cap v) (cap n) (cap g)) i next (suc k) (sym (tests_capped v n g ∙ e)) (λ z. omega arith))
        ∙ heading_some (numbers v n g) i next (suc k) (sym e) (λ z. omega arith)
    go zero e =
        let s = small v n g e in
        let a : cap v ≡ v = omega (arith, s.0) in
        let b : cap n ≡ n = omega (arith, s.1) in
        let c : cap g ≡ g = omega (arith, s.2) in
        simp (a, b, c)

-- openings by the line in front
module _ (i at : ℕ) (l : List ℕ) (ls : List (List ℕ)) where
  from_skipped : line_of l ≡ skipped → opening_from i at (l ∷ ls) ≡ opening_from (i + 1) (at + line_size l ls) ls
  unfolding opening_from by_form
  from_skipped e = rw e

  from_heading : (v n g : ℕ) → line_of l ≡ heading v n g → opening_from i at (l ∷ ls) ≡ heading_of (numbers v n g) i (at + line_size l ls)
  unfolding opening_from by_form
  from_heading v n g e = rw e

  from_clause : (k : ℕ) (zs : List ℤ) → line_of l ≡ clause k zs → opening_from i at (l ∷ ls) ≡ refused 22 i
  unfolding opening_from by_form
  from_clause k zs e = rw e

  from_formless : line_of l ≡ formless → opening_from i at (l ∷ ls) ≡ refused 22 i
  unfolding opening_from by_form
  from_formless e = rw e

from_alike : (i at : ℕ) (ls ls' : List (List ℕ)) → Alike ls ls' → opening_from i at ls ≡ opening_from i at ls'
unfolding opening_from
from_alike i at ls ls' (inl e) = ap (opening_from i at) e
from_alike i at ls ls' (inr e) = simp (e.0, e.1) (sym (from_skipped i at [] [] empty_skipped))

from_none : (i at : ℕ) (t : List ℕ) → length t ≤ 0 → opening_from i at (lines t) ≡ refused 22 0
unfolding opening_from lines pieces
from_none i at [] h = from_skipped i at [] [] empty_skipped
from_none i at (a ∷ t) h = absurd (omega arith)

-- t is what is left of all
pub record Seeking (all t : List ℕ) (i : ℕ) : Type 0 where
  pub answer : opening_of all ≡ opening_from i (length all - length t) (lines t)
  pub inside : length t ≤ length all
  pub number : i + length t ≤ length all + 1

pub seeking_start : (all : List ℕ) → Seeking all all 1
unfolding opening_of
seeking_start all = let z : length all - length all ≡ 0 = omega arith in record { answer = simp z; inside = omega arith; number = omega arith }

pub seeking_end : (all t : List ℕ) (i : ℕ) → Seeking all t i → length t ≡ 0 → refused 22 0 ≡ opening_of all
seeking_end all t i p h = sym (p.answer ∙ from_none i (length all - length t) t (omega arith))

-- its next line, and what follows that
module _ (all t : List ℕ) (i : ℕ) (p : Seeking all t i) (some : 0 < length t) where
  abbrev u : Turn t (run_of ends t) (past_of t (run_of ends t))
  u = turn t _ _ some refl refl

  on : (a : Answer Opening) → opening_from i (length all - length t) (line_in t ∷ u.later) ≡ a → opening_of all ≡ a
  on a e = p.answer ∙ ap (opening_from i (length all - length t)) u.split ∙ e

  past_here : length all - length t + line_size (line_in t) u.later ≡ length all - length (after_line t)
  past_here = omega (arith, u.size, u.inside, p.inside, length-drop (past_of t (run_of ends t)) t)

  pub seeking_skipped : start_of (line_in t) ≡ Some StartV.Skipped → Seeking all (after_line t) (i + 1)
  seeking_skipped e =
      record {
        answer = on _ (from_skipped i (length all - length t) (line_in t) u.later (start_skipped (line_in t) e))
            ∙ ap (λ (k : ℕ). opening_from (i + 1) k u.later) past_here
            ∙ from_alike (i + 1) (length all - length (after_line t)) u.later (lines (after_line t)) u.alike;
        inside = omega (arith, p.inside, length-drop (past_of t (run_of ends t)) t);
        number = omega (arith, p.number, length-drop (past_of t (run_of ends t)) t, u.some, u.inside);
      }

  pub seeking_heading : (h : Heading) → start_of (line_in t) ≡ Some (StartV.Heading h) → heading_of h i (length all - length (after_line t)) ≡ opening_of all
  seeking_heading h e =
      let k = start_heading (line_in t) h e in
      let a : h.variables ≡ cap k.variables = k.told.0 in
      let b : h.clauses ≡ cap k.clauses = k.told.1 in
      let c : h.groups ≡ cap k.groups = k.told.2 in
      let q : numbers h.variables h.clauses h.groups ≡ numbers (cap k.variables) (cap k.clauses) (cap k.groups) = cc in
      ap (λ (x : Heading). heading_of x i (length all - length (after_line t))) q
      ∙ heading_capped k.variables k.clauses k.groups i (length all - length (after_line t))
      ∙ sym (on _ (from_heading i (length all - length t) (line_in t) u.later k.variables k.clauses k.groups k.is
      ∙ ap (heading_of (numbers k.variables k.clauses k.groups) i) past_here))

  pub seeking_formless : start_of (line_in t) ≡ None → refused 22 i ≡ opening_of all
  seeking_formless e = sym (on _ (from_formless i (length all - length t) (line_in t) u.later (start_none (line_in t) e)))

  pub seeking_clause : (k j : ℕ) → start_of (line_in t) ≡ Some (StartV.Clause k j) → refused 22 i ≡ opening_of all
  seeking_clause k j e =
      let o = start_clause (line_in t) k j e in
      sym (on _ (go (closed (tokens (drop j (line_in t)))) o.group (literals (tokens (drop j (line_in t)))) o.is))
    where
      go : (b : Bool) (m : ℕ) (zs : List ℤ) → line_of (line_in t) ≡ cond b (clause m zs) formless → opening_from i (length all - length t) (line_in t ∷ u.later) ≡ refused 22 i
      go true m zs f = from_clause i (length all - length t) (line_in t) u.later m zs f
      go false m zs f = from_formless i (length all - length t) (line_in t) u.later f

-- what an opening says: t begins at place `at` with line i
pub record Opened (i at : ℕ) (t : List ℕ) (o : Opening) : Type 0 where
  pub past : ℕ
  pub place : o.next ≡ at + past
  pub inside : past ≤ length t
  pub number : o.line ≤ i + past
  pub variables : o.heading.variables ≤ 1024
  pub groups : o.heading.groups ≤ 32
  pub takes : opening_at i (lines t) ≡ following o.heading.variables o.heading.clauses o.heading.groups o.line (lines (drop past t))

abbrev Says : ℕ → ℕ → List ℕ → Answer Opening → Type 0
Says i at t (refused n p) = opening_at i (lines t) ≡ refused n p
Says i at t (answered o) = Opened i at t o

says_none : (i at : ℕ) (t : List ℕ) → length t ≤ 0 → Says i at t (opening_from i at (lines t))
unfolding opening_at lines pieces
says_none i at t h = subst (Says i at t) (sym (from_none i at t h)) (go t h)
  where
    go : (s : List ℕ) → length s ≤ 0 → opening_at i (pieces ends s) ≡ refused 22 0
    go [] h = opening_skipped i [] [] empty_skipped
    go (a ∷ s) h = absurd (omega arith)

following_alike : (v n g i : ℕ) (ls ls' : List (List ℕ)) → Alike ls ls' → following v n g i ls ≡ following v n g i ls'
unfolding following
following_alike v n g i ls ls' a = rw (clauses_alike v g 2048 (i + 1) ls ls' a)

module _ (i at : ℕ) (t : List ℕ) (n next : ℕ) (u : Turn t n next) where
  abbrev m : List ℕ
  m = take n t

  opening_turn : opening_at i (lines t) ≡ opening_at i (m ∷ u.later)
  opening_turn = ap (opening_at i) u.split

  later_says : (a : Answer Opening) → opening_at i (lines t) ≡ opening_at (i + 1) (lines (drop next t)) → Says (i + 1) (at + next) (drop next t) a → Says i at t a
  later_says (refused k p) e s = e ∙ s
  later_says (answered o) e s =
      record {
        past = next + s.past;
        place = omega (arith, s.place);
        inside = omega (arith, s.inside, length-drop next t, u.inside);
        number = omega (arith, s.number, u.some);
        variables = s.variables;
        groups = s.groups;
        takes = e ∙ s.takes ∙ ap (λ (r : List ℕ). following o.heading.variables o.heading.clauses o.heading.groups o.line (lines r)) (drop-drop s.past next t);
      }

  heading_says : (v k g : ℕ) → line_of m ≡ heading v k g → Says i at t (heading_of (numbers v k g) i (at + next))
  heading_says v k g f = go (first (heading_tests v k g)) refl
    where
      e : opening_at i (lines t) ≡ unless (first (heading_tests v k g)) i (following v k g i (lines (drop next t)))
      e = opening_turn ∙ opening_heading i m u.later v k g f ∙ ap (unless (first (heading_tests v k g)) i) (following_alike v k g i u.later (lines (drop next t)) u.alike)

      go : (w : ℕ) → first (heading_tests v k g) ≡ w → Says i at t (heading_of (numbers v k g) i (at + next))
      go (suc w) q = subst (Says i at t) (heading_some (numbers v k g) i (at + next) (suc w) (sym q) (λ z. omega arith)) (e ∙ unless_some (suc w) _ i _ (sym q) (λ z. omega arith))
      go zero q =
          let s = small v k g q in
          subst (Says i at t) (heading_none (numbers v k g) i (at + next) q)
          (record {
            past = next;
            place = refl;
            inside = u.inside;
            number = omega arith;
            variables = s.0;
            groups = s.2;
            takes = e ∙ unless_none _ i _ q;
          })

  turn_says : Says (i + 1) (at + next) (drop next t) (opening_from (i + 1) (at + next) (lines (drop next t))) → Says i at t (opening_from i at (lines t))
  turn_says s = subst (Says i at t) (sym (ap (opening_from i at) u.split)) (go (line_of m) refl)
    where
      go : (f : Line) → line_of m ≡ f → Says i at t (opening_from i at (m ∷ u.later))
      go skipped f =
          let q : opening_from i at (m ∷ u.later) ≡ opening_from (i + 1) (at + next) (lines (drop next t)) =
          from_skipped i at m u.later f
          ∙ ap (λ (w : ℕ). opening_from (i + 1) (at + w) u.later) u.size
          ∙ from_alike (i + 1) (at + next) u.later (lines (drop next t)) u.alike in
          subst (Says i at t) (sym q)
          (later_says (opening_from (i + 1) (at + next) (lines (drop next t)))
          (opening_turn ∙ opening_skipped i m u.later f ∙ opening_alike (i + 1) u.later (lines (drop next t)) u.alike) s)
      go (heading v k g) f =
          subst (Says i at t) (sym (from_heading i at m u.later v k g f ∙ ap (λ (w : ℕ). heading_of (numbers v k g) i (at + w)) u.size)) (heading_says v k g f)
      go (clause k zs) f = subst (Says i at t) (sym (from_clause i at m u.later k zs f)) (opening_turn ∙ opening_clause i m u.later k zs f)
      go formless f = subst (Says i at t) (sym (from_formless i at m u.later f)) (opening_turn ∙ opening_formless i m u.later f)

says : (k : ℕ) (t : List ℕ) (i at : ℕ) → length t ≤ k → Says i at t (opening_from i at (lines t))
says zero t i at h = says_none i at t h
says (suc k) t i at h = go (ltb 0 (length t)) refl (λ next. says k (drop next t) (i + 1) (at + next))
  where
    go : (b : Bool) → ltb 0 (length t) ≡ b
        → ((next : ℕ) → length (drop next t) ≤ k → Says (i + 1) (at + next) (drop next t) (opening_from (i + 1) (at + next) (lines (drop next t))))
        → Says i at t (opening_from i at (lines t))
    go false e on = says_none i at t (ltb-false 0 (length t) e)
    go true e on =
        let n = run_of ends t in
        let u = turn t n (past_of t n) (ltb-true 0 (length t) e) refl refl in
        turn_says i at t n (past_of t n) u (on (past_of t n) (omega (arith, length-drop (past_of t n) t, u.some, u.inside, h)))

module _ (t : List ℕ) where
  pub opening_refused : (n i : ℕ) → refused n i ≡ opening_of t → taking_text t ≡ refused n i
  unfolding opening_of taking_text
  opening_refused n i e = subst (Says 1 0 t) (sym e) (says (length t) t 1 0 (omega arith))

  pub opening_found : (o : Opening) → answered o ≡ opening_of t → Opened 1 0 t o
  unfolding opening_of
  opening_found o e = subst (Says 1 0 t) (sym e) (says (length t) t 1 0 (omega arith))

-- the lines after the `p` line, with its number, are as many as bytes at most
pub opened_small : (t : List ℕ) (o : Opening) → Opened 1 0 t o → o.line + length (take (length t - o.next) (drop o.next t)) ≤ 1 + length t
opened_small t o k = omega (arith, ap length (part_end t o.next), length-drop o.next t, k.place, k.inside, k.number)
