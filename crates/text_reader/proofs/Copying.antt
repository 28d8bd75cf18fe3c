-- What holds as the clauses of a text that was taken are written.
--   Copying                    the invariant of `put_clauses`: t is what is left, and `later` are its clauses
--   copying_start              its start
--   copy_skipped, copy_right   a line that adds nothing; no line is refused
--   Copy, copy                 what is said at a clause
--   copy_room, copy_next       there is room for the clause; the next turn
--   copy_last, copy_end        at the end: there is room for it, and all is written
-- Assumes nothing.
use Prim.Native.Nat.{ℕ, ◌+◌, ◌-◌, ◌*◌, ◌≤◌, ◌<◌}
use mathlib.Core.Path.{◌≡◌, refl, sym, ap, ◌∙◌}
use mathlib.Core.List.{List, [], ◌∷◌, ◌++◌}
use native.Mathlib.Omega.{arith}
use lib.ListN.{length, take, length-append}
use Rattle.std.specs.Prelude.{Option, None, Some, Result, Ok, Err}
use Rattle.std.specs.Result.{IsOk}
use Rattle.answer.specs.Answer.{answered}
use Rattle.answer.specs.Refusals.{number_of}
use Rattle.answer.specs.declared.Cause.{Cause}
use Rattle.answer.specs.Space.{Wrote}
use Rattle.answer.proofs.Answers.{then_is, never}
use Rattle.answer.proofs.Spaces.{Writing, writing_start, writing_room, writing_next, writing_end}
use Rattle.field.specs.Words.{word_bytes}
use Rattle.field.specs.Field.{field_bytes}
use Rattle.meaning.specs.Book.{Clause, clause_from}
use Rattle.book.specs.Bytes.{clause_bytes, clauses_bytes}
use Rattle.book.proofs.Sizes.{clause_length}
use Rattle.text.specs.Lines.{ends, lines}
use Rattle.text.specs.Taking.{head_in, body_in, clause_in, clauses_at}
use Rattle.text.proofs.Walks.{clauses_any, clauses_alike}
use Rattle.line.specs.Tokens.{run_of}
use Rattle.clause_line.specs.Steps.{told, step_of, body_after}
use Rattle.clause_line.specs.declared.Clause.{Clause as Step}
use Rattle.clause_line.proofs.Steps.{step_body, step_skipped, step_wrong, step_clause}
use Rattle.text_reader.specs.Steps.{past_of, line_in, after_line, clauses_of, AreClauses}
use Rattle.text_reader.proofs.Turns.{Turn, turn}
use Rattle.text_reader.proofs.Passing.{clauses_none, added_few}

pub record Copying (v g : ℕ) (all : List Clause) (out₀ out : List ℕ) (t : List ℕ) (left at : ℕ) : Type 0 where
  pub later : List Clause
  pub is : clauses_at v g left 0 (lines t) ≡ answered later
  pub writing : Writing (clauses_bytes all) out₀ 7 out at (clauses_bytes later)

pub copying_start : (v g : ℕ) (t out : List ℕ) → AreClauses v g t → Copying v g (clauses_of v g t) out out t 2048 7
unfolding AreClauses
copying_start v g t out e = record { later = clauses_of v g t; is = e; writing = writing_start _ _ _ }

module _ (v g : ℕ) (all : List Clause) (out₀ out t : List ℕ) (left at : ℕ) (p : Copying v g all out₀ out t left at) where
  -- the next line, and what follows it
  module _ (some : 0 < length t) where
    abbrev u : Turn t (run_of ends t) (past_of t (run_of ends t))
    u = turn t _ _ some refl refl

    on : clauses_at v g left 0 (line_in t ∷ u.later) ≡ answered p.later
    on = sym (ap (clauses_at v g left 0) u.split) ∙ p.is

    pub copy_right : (r : Result (Option Step) Cause) → told r ≡ step_of v g left (line_in t) → IsOk r
    copy_right (Ok s) e = refl
    copy_right (Err c) e = absurd (never p.later (number_of c) 0 (sym on ∙ step_wrong v g left (line_in t) (number_of c) 0 u.later (sym e)))

    -- what is left after the line
    past : (room : ℕ) (cs : List Clause) → clauses_at v g room 1 u.later ≡ answered cs → clauses_at v g room 0 (lines (after_line t)) ≡ answered cs
    past room cs e = sym (clauses_alike v g room 0 u.later (lines (after_line t)) u.alike) ∙ clauses_any v g room 1 0 u.later cs e

    pub copy_skipped : step_of v g left (line_in t) ≡ Ok None → Copying v g all out₀ out (after_line t) left at
    copy_skipped e =
        record { later = p.later; is = past left p.later (sym (step_skipped v g left (line_in t) 0 u.later e).1 ∙ on); writing = p.writing }

    -- a clause: the words for the body were `old`, and the line leaves `new`
    module _ (vs : v < 65535) (gs : g < 65535) (s : Step) (e : step_of v g left (line_in t) ≡ Ok (Some s)) (old new : List ℕ) (leaves : new ≡ body_after (line_in t) old) where
      abbrev here : Clause
      here = clause_from (s.group ∷ []) s.head (take s.count new)

      pub record Copy : Type 0 where
        pub few : s.count ≤ 32
        pub room : 1 ≤ left
        pub fits : length (take s.count new) ≡ s.count
        pub after : List Clause
        pub split : p.later ≡ here ∷ after
        pub is : clauses_at v g (left - 1) 1 u.later ≡ answered after

      pub copy : Copy
      copy =
          let b = step_body v g left (line_in t) s old vs gs e in
          let body : take s.count new ≡ body_in b.zs = ap (take s.count) leaves ∙ b.body in
          let f = added_few v g left (line_in t) s old b in
          let d = then_is (clauses_at v g (left - 1) 1 u.later) (λ cs. answered (clause_in s.group b.zs ∷ cs)) p.later
          (sym (step_clause v g left (line_in t) s old 0 u.later b) ∙ on) in
          let q : answered (clause_in s.group b.zs ∷ d.0) ≡ answered p.later = d.2 in
          let r : p.later ≡ clause_in s.group b.zs ∷ d.0 = cc in
          let w : here ≡ clause_in s.group b.zs =
          ap (λ (h : ℕ). clause_from (s.group ∷ []) h (take s.count new)) b.head ∙ ap (clause_from (s.group ∷ []) (head_in b.zs)) body in
          record {
            few = f.1;
            room = f.0;
            fits = ap length body ∙ sym b.count;
            after = d.0;
            split = r ∙ ap (λ (c : Clause). c ∷ d.0) (sym w);
            is = d.1;
          }

      bytes_split : clauses_bytes p.later ≡ clause_bytes here ++ clauses_bytes copy.after
      unfolding clauses_bytes
      bytes_split = ap clauses_bytes copy.split

      pub copy_room : 7 + length (clauses_bytes all) ≤ length out₀ → at + (7 + 2 * length (take s.count new)) ≤ length out
      copy_room r =
          omega (
            arith,
            writing_room (clauses_bytes all) out₀ 7 out at (clauses_bytes p.later) p.writing r,
            ap length bytes_split ∙ length-append (clause_bytes here) (clauses_bytes copy.after),
            clause_length here,
          )

      pub copy_next : (out' : List ℕ) (at' : ℕ) → Wrote out at (clause_bytes here) out' at' → Copying v g all out₀ out' (after_line t) (left - 1) at'
      copy_next out' at' w =
          record {
            later = copy.after;
            is = past (left - 1) copy.after copy.is;
            writing = writing_next (clauses_bytes all) out₀ 7 out at (clauses_bytes p.later) p.writing (clause_bytes here) (clauses_bytes copy.after) out' at' bytes_split w;
          }

  -- after the last line
  module _ (h : length t ≡ 0) where
    none : p.later ≡ []
    none = let e : answered p.later ≡ answered [] = sym p.is ∙ clauses_none v g left 0 t h in cc

    pub copy_last : 7 + length (clauses_bytes all) ≤ length out₀ → at + 3 ≤ length out
    unfolding clauses_bytes field_bytes
    copy_last r = omega (arith, writing_room (clauses_bytes all) out₀ 7 out at (clauses_bytes p.later) p.writing r, ap (λ (cs : List Clause). length (clauses_bytes cs)) none)

    pub copy_end : (out' : List ℕ) (r : ℕ) → Wrote out at (0 ∷ word_bytes (0 ∷ [])) out' r → Wrote out₀ 7 (clauses_bytes all) out' r
    unfolding clauses_bytes field_bytes word_bytes
    copy_end out' r w =
        let k = writing_next (clauses_bytes all) out₀ 7 out at (clauses_bytes p.later) p.writing (0 ∷ word_bytes (0 ∷ [])) [] out' r (ap clauses_bytes none) w in
        writing_end (clauses_bytes all) out₀ 7 out' r [] k refl
