-- What a step says of the line, and of the text from that line on.
--   unless_right, unless_cause      a result where nothing is wrong; where a cause stands against it
--   from_none, from_some            a clause by what its literals were found to be
--   clause_inside                   a clause begins within its line
--   step_by, body_by                what a line adds, and the words for the body after it, by what it begins as
--   Added v g left l c old          the line is the clause c, nothing is wrong with it, and the first words that it leaves are its body
--   step_body                       a line that adds a clause says that
--   step_skipped, step_wrong        a line that adds nothing, or is refused: what clauses_at gives where the line is the next
--   step_clause                     ... and one that adds a clause
--   length_after                    the words that were lent are as many as before
-- Assumes nothing.
use Prim.Native.Nat.{ℕ, zero, suc, ◌+◌, ◌-◌, ◌≤◌, ◌<◌}
use mathlib.Core.Path.{◌≡◌, refl, sym, ap, ◌∙◌, subst}
use mathlib.Core.List.{List, ◌∷◌}
use mathlib.Core.Bool.{Bool, true, false, ◌||◌, cond}
use native.Mathlib.Omega.{arith}
use lib.IntN.{ℤ}
use lib.ListN.{length, take, drop}
use lib.Seq.{take_at}
use lib.Dec.{ltb}
use Rattle.std.specs.Prelude.{Option, None, Some, Result, Ok, Err}
use Rattle.std.specs.Result.{result_map_both}
use Rattle.answer.specs.Answer.{Answer, answered, refused, and_then, first, unless}
use Rattle.answer.specs.Refusals.{number_of}
use Rattle.answer.specs.declared.Cause.{Cause}
use Rattle.answer.specs.declared.Cause.TheVariants as CauseV
use Rattle.answer.specs.Space.{over}
use Rattle.answer.proofs.Answers.{unless_none}
use Rattle.answer.proofs.Spaces.{length_over}
use Rattle.field.proofs.Parts.{part_end}
use Rattle.text.specs.Lines.{tokens}
use Rattle.text.specs.Forms.{Line, skipped, heading, clause, formless, by_form, literals, closed, line_of}
use Rattle.text.specs.Taking.{head_in, body_in, clause_in, clause_tests, clauses_at}
use Rattle.text.proofs.Walks.{clauses_skipped, clauses_heading, clauses_formless, clauses_clause}
use Rattle.line.specs.Tokens.{cap}
use Rattle.line.specs.Starts.{start_of}
use Rattle.line.specs.declared.Start.{Start}
use Rattle.line.specs.declared.Start.TheVariants as StartV
use Rattle.line.proofs.Steps.{tail}
use Rattle.line.proofs.Starts.{start_none, start_skipped, start_heading, start_clause}
use Rattle.clause_line.specs.Steps.{capped, kept_of, literals_of, scan_of, found_tests, step_unless, step_from, step_of, body_from, body_after}
use Rattle.clause_line.specs.declared.Scan.{Scan}
use Rattle.clause_line.specs.declared.Clause.{Clause}
use Rattle.clause_line.proofs.Kept.{kept_most}
use Rattle.clause_line.proofs.Capped.{found_tests_lem, capped_right, group_right, kept_right}

-- ---- a clause, by what is wrong with it
unless_same : {A : Type 0} (n : ℕ) (r r' : Result A ℕ) → (n ≡ 0 → r ≡ r') → step_unless n r ≡ step_unless n r'
unfolding step_unless
unless_same zero r r' h = h refl
unless_same (suc n) r r' h = refl

-- a clause as what a line adds
abbrev pub as_added : Result Clause ℕ → Result (Option Clause) ℕ
as_added r = result_map_both (λ c. Some c) (λ n. n) r

unless_added : (n : ℕ) (r : Result Clause ℕ) → as_added (step_unless n r) ≡ step_unless n (as_added r)
unfolding step_unless
unless_added zero r = refl
unless_added (suc n) r = refl

-- no cause has the number 0
some_number : (c : Cause) → 0 < number_of c
some_number CauseV.TooLong = omega arith
some_number CauseV.CutShort = omega arith
some_number CauseV.UnknownTag = omega arith
some_number CauseV.HeaderMisplaced = omega arith
some_number CauseV.BadLength = omega arith
some_number CauseV.TooManyClauses = omega arith
some_number CauseV.OutOfRange = omega arith
some_number CauseV.NotRising = omega arith
some_number CauseV.BytesAfterEnd = omega arith
some_number CauseV.GroupLacking = omega arith
some_number CauseV.SpaceTooSmall = omega arith
some_number CauseV.Unended = omega arith
some_number CauseV.SecondHead = omega arith
some_number CauseV.BadRecord = omega arith
some_number CauseV.SeveralHeads = omega arith
some_number CauseV.WrongClauseCount = omega arith
some_number CauseV.Formless = omega arith

pub unless_right : {A : Type 0} (r : Result A ℕ) → step_unless 0 r ≡ r
unfolding step_unless
unless_right r = refl

pub unless_cause : {A : Type 0} (c : Cause) (r : Result A ℕ) → step_unless (number_of c) r ≡ Err (number_of c)
unfolding step_unless
unless_cause c r = go (number_of c) (some_number c)
  where
    go : (n : ℕ) → 0 < n → step_unless n r ≡ Err n
    go zero h = absurd (omega arith)
    go (suc n) h = refl

module _ (g left k : ℕ) where
  pub from_none : step_from g left k None ≡ Err 22
  unfolding step_from
  from_none = refl

  pub from_some : (s : Scan) → step_from g left k (Some s)
      ≡ step_unless (first (found_tests (ltb g k || s.beyond) s.several left s.count)) (Ok (record { group = k; head = s.head; count = s.count }))
  unfolding step_from
  from_some s = refl

-- ---- a step, by what the line begins as
pub clause_inside : (l : List ℕ) (k next : ℕ) → start_of l ≡ Some (StartV.Clause k next) → next ≤ length l
clause_inside l k next e = (start_clause l k next e).inside

module _ (v g left : ℕ) (l : List ℕ) where
  abbrev by_start : Option Start → Result (Option Clause) ℕ
  by_start None = Err 22
  by_start (Some StartV.Skipped) = Ok None
  by_start (Some (StartV.Heading h)) = Err 22
  by_start (Some (StartV.Clause k next)) = as_added (step_from g left k (scan_of v (tokens (tail l next))))

  clause_step : (k next : ℕ) → start_of l ≡ Some (StartV.Clause k next) → v < 65535 → g < 65535
      → as_added (step_from g left k (scan_of v (tokens (drop next l)))) ≡ step_of v g left l
  unfolding step_of by_form scan_of step_from
  clause_step k next begun few_variables few_groups =
      let o = start_clause l k next begun in
      go (closed (tokens (drop next l))) o.group (literals (tokens (drop next l))) o.told o.is
    where
      go : (b : Bool) (k' : ℕ) (zs : List ℤ) → k ≡ cap k' → line_of l ≡ cond b (clause k' zs) formless
          → as_added (step_from g left k (cond b (Some (literals_of v (capped zs))) None)) ≡ step_of v g left l
      go false k' zs p q = sym (rw q)
      go true k' zs p q =
          let n = first (clause_tests v g left k' zs) in
          let here : Clause = record { group = cap k'; head = head_in (capped zs); count = length (kept_of (capped zs)) } in
          let there : Clause = record { group = k'; head = head_in zs; count = length (body_in zs) } in
          rw (p, q, found_tests_lem v g left k' zs few_variables few_groups)
          (unless_added n (Ok here)
          ∙ unless_same n (Ok (Some here)) (Ok (Some there))
          (λ r.
          let a = group_right v g left k' zs few_variables few_groups r in
          let b = ap (λ (ys : List ℤ). head_in ys) (capped_right v g left k' zs few_variables few_groups r) in
          let c = ap length (kept_right v g left k' zs few_variables few_groups r) in
          cc))

  pub step_by : v < 65535 → g < 65535 → step_of v g left l ≡ by_start (start_of l)
  unfolding step_of by_form
  step_by few_variables few_groups = go (start_of l) refl
    where
      go : (s : Option Start) → start_of l ≡ s → step_of v g left l ≡ by_start s
      go None e = rw (start_none l e)
      go (Some StartV.Skipped) e = rw (start_skipped l e)
      go (Some (StartV.Heading h)) e = rw (start_heading l h e).is
      go (Some (StartV.Clause k next)) e =
          sym (ap (λ (u : List ℕ). as_added (step_from g left k (scan_of v (tokens u)))) (part_end l next) ∙ clause_step k next e few_variables few_groups)

module _ (l old : List ℕ) where
  abbrev left_by : Option Start → List ℕ
  left_by (Some (StartV.Clause k next)) = over (kept_of (capped (literals (tokens (tail l next))))) old
  left_by (Some StartV.Skipped) = old
  left_by (Some (StartV.Heading h)) = old
  left_by None = old

  pub body_by : body_after l old ≡ left_by (start_of l)
  unfolding body_after body_from
  body_by = go (start_of l)
    where
      go : (s : Option Start) → body_from s l old ≡ left_by s
      go (Some (StartV.Clause k next)) = rw (part_end l next)
      go (Some StartV.Skipped) = refl
      go (Some (StartV.Heading h)) = refl
      go None = refl

pub length_after : (l old : List ℕ) → 33 ≤ length old → length (body_after l old) ≡ length old
unfolding body_after body_from
length_after l old h = go (start_of l)
  where
    go : (s : Option Start) → length (body_from s l old) ≡ length old
    go (Some StartV.Skipped) = refl
    go (Some (StartV.Heading b)) = refl
    go None = refl
    go (Some (StartV.Clause k next)) =
        let zs = capped (literals (tokens (drop next l))) in
        length_over (kept_of zs) old (omega (arith, kept_most zs))

-- ---- the line, by the step
pub record Added (v g left : ℕ) (l : List ℕ) (c : Clause) (old : List ℕ) : Type 0 where
  pub zs : List ℤ
  pub line : line_of l ≡ clause c.group zs
  pub right : first (clause_tests v g left c.group zs) ≡ 0
  pub head : c.head ≡ head_in zs
  pub count : c.count ≡ length (body_in zs)
  pub body : take c.count (body_after l old) ≡ body_in zs

-- the words after a clause
clause_after : (l old : List ℕ) (k : ℕ) (zs : List ℤ) → line_of l ≡ clause k zs → body_after l old ≡ over (kept_of (capped zs)) old
unfolding body_after body_from
clause_after l old k zs e = go (start_of l) refl
  where
    made : (b : Bool) (k' : ℕ) (ys : List ℤ) → line_of l ≡ cond b (clause k' ys) formless → ys ≡ zs
    made true k' ys q = cc
    made false k' ys q = cc

    go : (s : Option Start) → start_of l ≡ s → body_from s l old ≡ over (kept_of (capped zs)) old
    go (Some StartV.Skipped) q = let d = start_skipped l q in cc
    go (Some (StartV.Heading h)) q = let d = (start_heading l h q).is in cc
    go None q = let d = start_none l q in cc
    go (Some (StartV.Clause j next)) q =
        let o = start_clause l j next q in
        ap (λ (ys : List ℤ). over (kept_of (capped ys)) old) (made (closed (tokens (drop next l))) o.group (literals (tokens (drop next l))) o.is)

module _ (c : Clause) where
  abbrev ok : Result (Option Clause) ℕ
  ok = Ok (Some c)

  unless_clause : (m : ℕ) (d : Clause) → step_unless m ok ≡ Ok (Some d) → (m ≡ 0) × (c ≡ d)
  unfolding step_unless
  unless_clause zero d e = (refl, cc)
  unless_clause (suc m) d e = cc

  unless_wrong : (m w i : ℕ) {A : Type 0} (a : Answer A) → step_unless m ok ≡ Err w → unless m i a ≡ refused w i
  unfolding step_unless unless
  unless_wrong zero w i a e = cc
  unless_wrong (suc m) w i a e = let q : suc m ≡ w = cc in ap (λ (j : ℕ). refused j i) q

  unless_skipped : (m : ℕ) → step_unless m ok ≡ Ok None → ⊥
  unfolding step_unless
  unless_skipped zero e = cc
  unless_skipped (suc m) e = cc

module _ (v g left : ℕ) (l : List ℕ) where
  abbrev clause_of : ℕ → List ℤ → Clause
  clause_of k zs = record { group = k; head = head_in zs; count = length (body_in zs) }

  abbrev by_line : Line → Result (Option Clause) ℕ
  by_line f = by_form f (Ok None) (λ v' n' g'. Err 22) (λ k zs. step_unless (first (clause_tests v g left k zs)) (Ok (Some (clause_of k zs)))) (Err 22)

  pub step_body : (c : Clause) (old : List ℕ) → v < 65535 → g < 65535 → step_of v g left l ≡ Ok (Some c) → Added v g left l c old
  unfolding step_of by_form
  step_body c old few_variables few_groups e = go (line_of l) refl e
    where
      go : (f : Line) → line_of l ≡ f → by_line f ≡ Ok (Some c) → Added v g left l c old
      go skipped p q = cc
      go (heading a b d) p q = cc
      go formless p q = cc
      go (clause k zs) p q =
          let u = unless_clause (clause_of k zs) (first (clause_tests v g left k zs)) c q in
          let kept = kept_right v g left k zs few_variables few_groups u.0 in
          subst (λ (d : Clause). Added v g left l d old) u.1
          (record {
            zs = zs;
            line = p;
            right = u.0;
            head = refl;
            count = refl;
            body =
                ap (take (length (body_in zs))) (clause_after l old k zs p ∙ ap (λ (ws : List ℕ). over ws old) kept)
                ∙ take_at (body_in zs) (drop (length (body_in zs)) old) (length (body_in zs)) refl;
          })

  pub step_skipped : (i : ℕ) (ls : List (List ℕ)) → step_of v g left l ≡ Ok None → (line_of l ≡ skipped) × (clauses_at v g left i (l ∷ ls) ≡ clauses_at v g left (i + 1) ls)
  unfolding step_of by_form
  step_skipped i ls e = let q = go (line_of l) e in (q, clauses_skipped v g left i l ls q)
    where
      go : (f : Line) → by_line f ≡ Ok None → f ≡ skipped
      go skipped q = refl
      go (heading a b c) q = cc
      go formless q = cc
      go (clause k zs) q = absurd (unless_skipped (clause_of k zs) (first (clause_tests v g left k zs)) q)

  pub step_wrong : (n i : ℕ) (ls : List (List ℕ)) → step_of v g left l ≡ Err n → clauses_at v g left i (l ∷ ls) ≡ refused n i
  unfolding step_of by_form
  step_wrong n i ls e = go (line_of l) refl e
    where
      go : (f : Line) → line_of l ≡ f → by_line f ≡ Err n → clauses_at v g left i (l ∷ ls) ≡ refused n i
      go skipped p q = cc
      go (heading a b c) p q = let d : 22 ≡ n = cc in clauses_heading v g left i l ls a b c p ∙ ap (λ (j : ℕ). refused j i) d
      go formless p q = let d : 22 ≡ n = cc in clauses_formless v g left i l ls p ∙ ap (λ (j : ℕ). refused j i) d
      go (clause k zs) p q =
          clauses_clause v g left i l ls k zs p
          ∙ unless_wrong (clause_of k zs) (first (clause_tests v g left k zs)) n i
          (and_then (clauses_at v g (left - 1) (i + 1) ls) (λ cs. answered (clause_in k zs ∷ cs))) q

  pub step_clause : (c : Clause) (old : List ℕ) (i : ℕ) (ls : List (List ℕ)) (a : Added v g left l c old)
      → clauses_at v g left i (l ∷ ls) ≡ and_then (clauses_at v g (left - 1) (i + 1) ls) (λ cs. answered (clause_in c.group a.zs ∷ cs))
  step_clause c old i ls a =
      clauses_clause v g left i l ls c.group a.zs a.line
      ∙ unless_none (first (clause_tests v g left c.group a.zs)) i (and_then (clauses_at v g (left - 1) (i + 1) ls) (λ cs. answered (clause_in c.group a.zs ∷ cs))) a.right
