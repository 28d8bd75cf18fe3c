-- What holds as the lines after the `p` line are taken one by one.
--   counted_from v n g i size done a      what is to be answered, where the book has `size` bytes and `done` clauses so far, and a is what is left
--   Passing                the invariant of `take_clauses`: t is what is left, from line j on, with room for `left` clauses
--   passing_start          its start
--   clauses_none           no line, no clause
--   added_few              a clause that is added: there is room for it, and its body is small
--   passing_skipped, passing_wrong       a line that adds nothing, and a refusal
--   Next, passing_clause   what a clause says, and the next turn
--   passing_off, passing_done      its end: not the number of clauses that was announced, and all is well
--   step_where, cause_told      a step whose cause becomes a refusal at a place: by what that gives
-- Assumes nothing.
use Prim.Native.Nat.{ℕ, suc, ◌+◌, ◌-◌, ◌*◌, ◌≤◌, ◌<◌}
use mathlib.Core.Path.{◌≡◌, refl, sym, ap, ◌∙◌}
use mathlib.Core.List.{List, [], ◌∷◌}
use mathlib.Core.Bool.{Bool, true, false, not, cond, false≢true}
use native.Mathlib.Omega.{arith}
use lib.ListN.{length}
use lib.Dec.{eqb}
use borrow.Author.Tests.{eq-eqb, ne_eqb, eqb-false, ltb-false}
use Rattle.answer.specs.Answer.{Answer, answered, refused, and_then, first, unless}
use Rattle.answer.specs.Refusals.{wrong_is}
use Rattle.answer.specs.declared.Cause.{Cause}
use Rattle.answer.specs.declared.Refusal.{Refusal}
use Rattle.answer.proofs.Tests.{first_clear}
use Rattle.std.specs.Prelude.{Result, Ok, Err, None, Some, MatchResult, is_ok}
use Rattle.meaning.specs.Book.{Clause}
use Rattle.book.specs.Reading.{with_clauses}
use Rattle.book.proofs.Sizes.{clause_length, fields_length, book_length}
use Rattle.text.specs.Lines.{ends, lines, pieces}
use Rattle.text.specs.Taking.{body_in, clause_in, clause_tests, clauses_at, count_tests, following}
use Rattle.text.proofs.Walks.{empty_skipped, clauses_skipped, clauses_alike}
use Rattle.line.specs.Tokens.{run_of}
use Rattle.clause_line.specs.Steps.{step_of, told}
use Rattle.clause_line.specs.declared.Clause.{Clause as Step}
use Rattle.clause_line.proofs.Steps.{Added, step_body, step_skipped, step_wrong, step_clause}
use Rattle.writer.specs.Steps.{taken_of}
use Rattle.writer.specs.declared.Taken.{Taken}
use Rattle.text_reader.specs.Steps.{past_of, line_in, after_line}
use Rattle.text_reader.proofs.Turns.{Turn, turn, after_shorter}

abbrev taken_as : ℕ → ℕ → ℕ → Answer Taken
taken_as v g n = answered (record { variables = v; groups = g; length = n })

unfoldable pub counted_from : ℕ → ℕ → ℕ → ℕ → ℕ → ℕ → Answer (List Clause) → Answer Taken
counted_from v n g i size done (answered cs) = cond (eqb (done + length cs) n) (taken_as v g (size + fields_length cs)) (refused 21 i)
counted_from v n g i size done (refused k p) = refused k p

from_start : (v n g i : ℕ) (a : Answer (List Clause)) → taken_of (and_then a (λ cs. unless (first (count_tests n cs)) i (with_clauses v g cs))) ≡ counted_from v n g i 10 0 a
unfolding counted_from and_then taken_of first unless
from_start v n g i (refused k p) = refl
from_start v n g i (answered cs) = let z : 0 + length cs ≡ length cs = omega arith in simp z (go (eqb (length cs) n))
  where
    go : (b : Bool) → taken_of (unless (cond (not b) 21 0) i (with_clauses v g cs)) ≡ cond b (taken_as v g (10 + fields_length cs)) (refused 21 i)
    go true = ap (taken_as v g) (book_length (record { variables = v; groups = g; clauses = cs }))
    go false = refl

from_more : (v n g i size done m : ℕ) (c : Clause) (a : Answer (List Clause)) → m ≡ fields_length (c ∷ [])
    → counted_from v n g i size done (and_then a (λ cs. answered (c ∷ cs))) ≡ counted_from v n g i (size + m) (done + 1) a
unfolding counted_from fields_length and_then
from_more v n g i size done m c (answered cs) e =
    let p : done + suc (length cs) ≡ done + 1 + length cs = omega arith in
    let q : size + fields_length (c ∷ cs) ≡ size + m + fields_length cs = omega (arith, e) in
    ap (λ (k : ℕ). cond (eqb k n) (taken_as v g (size + fields_length (c ∷ cs))) (refused 21 i)) p
    ∙ ap (λ (k : ℕ). cond (eqb (done + 1 + length cs) n) (taken_as v g k) (refused 21 i)) q
from_more v n g i size done m c (refused k p) e = refl

pub record Passing (v n g i : ℕ) (all t : List ℕ) (j left size : ℕ) : Type 0 where
  pub answer : taken_of (following v n g i (lines all)) ≡ counted_from v n g i size (2048 - left) (clauses_at v g left j (lines t))
  pub most : left ≤ 2048
  pub place : j + length t ≤ i + 1 + length all
  pub small : size + 71 * left ≤ 145418

pub passing_start : (v n g i : ℕ) (all : List ℕ) → Passing v n g i all all (i + 1) 2048 10
unfolding following
passing_start v n g i all = record { answer = from_start v n g i (clauses_at v g 2048 (i + 1) (lines all)); most = omega arith; place = omega arith; small = omega arith }

-- at the end no clause is left
pub clauses_none : (v g left j : ℕ) (t : List ℕ) → length t ≡ 0 → clauses_at v g left j (lines t) ≡ answered []
unfolding lines pieces clauses_at
clauses_none v g left j [] h = clauses_skipped v g left j [] [] empty_skipped
clauses_none v g left j (a ∷ t) h = absurd (omega arith)

-- nothing is wrong with a clause that was added, so there was room for it and its body is small
pub added_few : (v g left : ℕ) (l : List ℕ) (s : Step) (old : List ℕ) → Added v g left l s old → (1 ≤ left) × (s.count ≤ 32)
added_few v g left l s old b =
    let r = first_clear (clause_tests v g left s.group b.zs) b.right in
    let full : left ≡ 0 → ⊥ = eqb-false left 0 r.1.1.1.1.0 in
    let long = ltb-false 32 (length (body_in b.zs)) r.1.1.1.1.1.0 in
    (omega (arith, full), omega (arith, b.count, long))

module _ (v n g i : ℕ) (all t : List ℕ) (j left size : ℕ) (p : Passing v n g i all t j left size) where
  module _ (h : length t ≡ 0) where
    none : taken_of (following v n g i (lines all)) ≡ cond (eqb (2048 - left + 0) n) (taken_as v g (size + 0)) (refused 21 i)
    unfolding counted_from fields_length
    none = p.answer ∙ ap (counted_from v n g i size (2048 - left)) (clauses_none v g left j t h)

    pub passing_off : (2048 - left ≡ n → ⊥) → refused 21 i ≡ taken_of (following v n g i (lines all))
    passing_off e = let z : 2048 - left + 0 ≡ n → ⊥ = λ q. e (omega (arith, q)) in sym (none ∙ rw (ne_eqb (2048 - left + 0) n z))

    pub passing_done : 2048 - left ≡ n → taken_as v g size ≡ taken_of (following v n g i (lines all))
    passing_done e =
        let z : 2048 - left + 0 ≡ n = omega (arith, e) in
        let y : size + 0 ≡ size = omega arith in
        sym (none ∙ rw (eq-eqb (2048 - left + 0) n z, y))

  -- the next line, and what follows it
  module _ (some : 0 < length t) where
    abbrev u : Turn t (run_of ends t) (past_of t (run_of ends t))
    u = turn t _ _ some refl refl

    on : (a : Answer (List Clause)) → clauses_at v g left j (line_in t ∷ u.later) ≡ a → taken_of (following v n g i (lines all)) ≡ counted_from v n g i size (2048 - left) a
    on a e = p.answer ∙ ap (counted_from v n g i size (2048 - left)) (ap (clauses_at v g left j) u.split ∙ e)

    pub passing_skipped : step_of v g left (line_in t) ≡ Ok None → Passing v n g i all (after_line t) (j + 1) left size
    passing_skipped e =
        record {
          answer = on _ ((step_skipped v g left (line_in t) j u.later e).1 ∙ clauses_alike v g left (j + 1) u.later (lines (after_line t)) u.alike);
          most = p.most;
          place = omega (arith, p.place, after_shorter t some);
          small = p.small;
        }

    pub passing_wrong : (m : ℕ) → step_of v g left (line_in t) ≡ Err m → refused m j ≡ taken_of (following v n g i (lines all))
    unfolding counted_from
    passing_wrong m e = sym (on _ (step_wrong v g left (line_in t) m j u.later e))

    pub record Next (s : Step) : Type 0 where
      pub room : 1 ≤ left
      pub few : s.count ≤ 32
      pub next_turn : Passing v n g i all (after_line t) (j + 1) (left - 1) (size + (7 + 2 * s.count))

    pub passing_clause : v < 65535 → g < 65535 → (s : Step) → step_of v g left (line_in t) ≡ Ok (Some s) → Next s
    unfolding fields_length
    passing_clause vs gs s e =
        let b = step_body v g left (line_in t) s [] vs gs e in
        let f = added_few v g left (line_in t) s [] b in
        let room : 1 ≤ left = f.0 in
        let few : s.count ≤ 32 = f.1 in
        let d : Clause = clause_in s.group b.zs in
        let one : 7 + 2 * s.count ≡ fields_length (d ∷ []) = omega (arith, clause_length d, b.count) in
        let count : 2048 - left + 1 ≡ 2048 - (left - 1) = omega (arith, room, p.most) in
        let q = clauses_alike v g (left - 1) (j + 1) u.later (lines (after_line t)) u.alike in
        record {
          room = room;
          few = few;
          next_turn = record {
            answer = on _ (step_clause v g left (line_in t) s [] j u.later b)
                ∙ from_more v n g i size (2048 - left) (7 + 2 * s.count) d (clauses_at v g (left - 1) (j + 1) u.later) one
                ∙ ap (λ (w : ℕ). counted_from v n g i (size + (7 + 2 * s.count)) w (clauses_at v g (left - 1) (j + 1) u.later)) count
                ∙ ap (counted_from v n g i (size + (7 + 2 * s.count)) (2048 - (left - 1))) q;
            most = omega (arith, p.most);
            place = omega (arith, p.place, after_shorter t some);
            small = omega (arith, p.small, few, room);
          };
        }

-- what a step's result is, by what `map_err` of its cause to a refusal at a place gives
pub step_where : {A : Type 0} (r : Result A Cause) (x : A) (P : Cause → Type 0) → true ≡ is_ok r → MatchResult r (λ a. ◌≡◌ {A = Result A Refusal} (Ok x) (Ok a)) P → told r ≡ Ok x
step_where (Ok a) x P t e = let p : a ≡ x = cc in ap Ok p
step_where (Err c) x P t e = absurd (false≢true (sym t))

pub cause_told : {A : Type 0} (r : Result A Cause) (k : ℕ) → wrong_is r ≡ k → (k ≡ 0 → ⊥) → told r ≡ Err k
cause_told (Ok a) k e h = absurd (h (sym e))
cause_told (Err c) k e h = ap Err e
