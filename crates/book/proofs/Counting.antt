-- What holds as the fields of a book are passed and its clauses counted.
--   counted_from n a          the count to be answered, where n clauses were passed and a is what is left
--   answer_of v g book        what `count_clauses` is to answer
--   Passed                   the invariant of `count_clauses`: `rest` stands at `at`, with room for `left` clauses
--   passed_start, passed_next      its start and its next turn
--   passed_bad, passed_after, passed_done      its ways out: a wrong field, bytes after the end, the end
-- Assumes nothing.
use Prim.Native.Nat.{ℕ, zero, suc, ◌+◌, ◌-◌, ◌≤◌, ◌<◌}
use mathlib.Core.Path.{◌≡◌, refl, sym, ap, ◌∙◌}
use mathlib.Core.List.{List, ◌∷◌}
use native.Mathlib.Omega.{arith}
use lib.ListN.{length, take, drop, length-drop}
use Rattle.answer.specs.Answer.{Answer, answered, refused, and_then}
use Rattle.answer.specs.declared.Cause.{Cause}
use Rattle.answer.specs.Refusals.{number_of}
use Rattle.answer.proofs.Refusals.{number_some}
use Rattle.field.specs.Field.{tag, size, after}
use Rattle.field.proofs.Parts.{part_end}
use Rattle.meaning.specs.Book.{Clause}
use Rattle.book.specs.Reading.{clause_of, wrong_field, fields}
use Rattle.book.proofs.Tests.{field_ok}
use Rattle.book.proofs.Fields.{fields_bad, fields_end, fields_clause, ending_none, ending_more}

unfoldable pub counted_from : ℕ → Answer (List Clause) → Answer ℕ
counted_from n a = and_then a (λ cs. answered (n + length cs))

from_none : (a : Answer (List Clause)) → and_then a (λ cs. answered (length cs)) ≡ counted_from 0 a
unfolding counted_from and_then
from_none (answered cs) = let e : length cs ≡ 0 + length cs = omega arith in ap answered e
from_none (refused n at) = refl

from_more : (n : ℕ) (c : Clause) (a : Answer (List Clause)) → counted_from n (and_then a (λ cs. answered (c ∷ cs))) ≡ counted_from (n + 1) a
unfolding counted_from and_then
from_more n c (answered cs) = let e : n + suc (length cs) ≡ n + 1 + length cs = omega arith in ap answered e
from_more n c (refused k at) = refl

abbrev pub answer_of : ℕ → ℕ → List ℕ → Answer ℕ
answer_of v g book = and_then (fields v g 2048 7 (drop 7 book)) (λ cs. answered (length cs))

pub record Passed (v g : ℕ) (book rest : List ℕ) (at left : ℕ) : Type 0 where
  pub answer : answer_of v g book ≡ counted_from (2048 - left) (fields v g left at rest)
  pub most : left ≤ 2048
  pub inside : at + length rest ≤ 65535

pub passed_start : (v g : ℕ) (book : List ℕ) → 7 ≤ length book → length book ≤ 65535 → Passed v g book (take (length book - 7) (drop 7 book)) 7 2048
passed_start v g book l m =
    record {
      answer = simp part_end (from_none (fields v g 2048 7 (drop 7 book)));
      most = omega arith;
      inside = simp (part_end, length-drop) (omega arith);
    }

module _ (v g : ℕ) (book rest : List ℕ) (at left : ℕ) (p : Passed v g book rest at left) where
  pub passed_bad : (c : Cause) → number_of c ≡ wrong_field v g left rest → refused (number_of c) at ≡ answer_of v g book
  unfolding counted_from and_then
  passed_bad c e = sym (p.answer ∙ ap (counted_from (2048 - left)) (fields_bad v g left at rest (number_of c) e (number_some c)))

  module _ (right : wrong_field v g left rest ≡ 0) (n : ℕ) (is : n ≡ size rest) (t : tag rest ≡ 0) where
    pub passed_after : n < length rest → refused 9 (at + n) ≡ answer_of v g book
    unfolding counted_from and_then
    passed_after h =
        let more : 0 < length (after rest) = simp length-drop (omega arith) in
        sym
        (p.answer
        ∙ ap (counted_from (2048 - left)) (fields_end v g left at rest right t ∙ ending_more (at + size rest) (after rest) more)
        ∙ ap (λ (k : ℕ). refused 9 (at + k)) (sym is))

    pub passed_done : length rest ≤ n → answered (2048 - left) ≡ answer_of v g book
    unfolding counted_from and_then
    passed_done h =
        let none : length (after rest) ≤ 0 = simp length-drop (omega arith) in
        let e : 2048 - left + 0 ≡ 2048 - left = omega arith in
        sym
        (p.answer
        ∙ ap (counted_from (2048 - left)) (fields_end v g left at rest right t ∙ ending_none (at + size rest) (after rest) none)
        ∙ ap answered e)

pub passed_next : (v g : ℕ) (book rest : List ℕ) (at left : ℕ) → Passed v g book rest at left → wrong_field v g left rest ≡ 0 → (n : ℕ) → n ≡ size rest
    → (tag rest ≡ 0 → ⊥) → Passed v g book (take (length rest - n) (drop n rest)) (at + n) (left - 1)
passed_next v g book rest at zero p right n is t = let h = ((field_ok v g zero rest right).holds t).room in absurd (omega arith)
passed_next v g book rest at (suc left) p right n is t =
    let fits : size rest ≤ length rest = (field_ok v g (suc left) rest right).start.fits in
    let a : 2048 - suc left + 1 ≡ 2048 - left = omega (arith, p.most) in
    let b : suc left - 1 ≡ left = omega arith in
    let end : take (length rest - n) (drop n rest) ≡ drop n rest = part_end rest n in
    record {
      answer = simp (end, b)
          (p.answer
          ∙ ap (counted_from (2048 - suc left)) (fields_clause v g left at rest right t)
          ∙ from_more (2048 - suc left) (clause_of rest) (fields v g left (at + size rest) (after rest))
          ∙ ap (λ (k : ℕ). counted_from k (fields v g left (at + size rest) (after rest))) a
          ∙ ap (λ (k : ℕ). counted_from (2048 - left) (fields v g left (at + k) (drop k rest))) (sym is));
      most = omega (arith, p.most);
      inside = simp (end, length-drop) (omega (arith, p.inside));
    }
