-- What no test's holding says of a header, of a clause and of a field, and the other way round.
--   StartOk, HeaderOk, ClauseOk, FieldOk      what a right one satisfies
--   start_ok, header_ok, clause_ok, field_ok      nothing is wrong with it, so it satisfies that
--   shape_least                      a clause of a right length has its group and its head
--   start_none, header_none, clause_none, field_none      it satisfies that, so nothing is wrong with it
-- Assumes nothing.
use Prim.Native.Nat.{ℕ, zero, suc, ◌≤◌, ◌%◌}
use mathlib.Core.Path.{◌≡◌, refl}
use mathlib.Core.List.{List}
use mathlib.Core.Bool.{true, cond}
use native.Mathlib.Omega.{arith}
use lib.ListN.{length}
use lib.Dec.{eqb}
use borrow.Author.Tests.{le-ltb, eq-eqb, ne_eqb, ltb-false, eqb-true, eqb-false, not-false}
use Rattle.answer.specs.Answer.{first, ◌or_else◌}
use Rattle.answer.proofs.Tests.{first_clear, or_zero}
use Rattle.field.specs.Words.{words, within, rising}
use Rattle.field.specs.Field.{tag, len, size}
use Rattle.field.proofs.Fields.{short_none, short_no}
use Rattle.book.specs.Bytes.{most_variables, most_groups}
use Rattle.book.specs.Reading.{variables_of, groups_of, group_of, head_of, body_part, start_tests, header_tests, later_tests, end_tests, shape_tests, number_tests, wrong_header, wrong_clause, wrong_field}

pub record StartOk (r : List ℕ) : Type 0 where
  pub fits : size r ≤ length r
  pub known : tag r ≤ 2

pub start_ok : (r : List ℕ) → first (start_tests r) ≡ 0 → StartOk r
start_ok r h = let p = first_clear (start_tests r) h in record { fits = short_none r p.0; known = ltb-false _ _ p.1.0 }

pub start_none : (r : List ℕ) → StartOk r → first (start_tests r) ≡ 0
unfolding first
start_none r k = simp (short_no r k.fits, le-ltb 2 (tag r) k.known)

pub record HeaderOk (r : List ℕ) : Type 0 where
  pub fits : size r ≤ length r
  pub tagged : tag r ≡ 1
  pub four : len r ≡ 4
  pub some : 1 ≤ variables_of r
  pub variables : variables_of r ≤ most_variables
  pub groups : groups_of r ≤ most_groups

pub header_ok : (r : List ℕ) → wrong_header r ≡ 0 → HeaderOk r
unfolding wrong_header
header_ok r h =
    let z = or_zero (first (start_tests r)) (first (header_tests r)) h in
    let p = first_clear (header_tests r) z.1 in
    record {
      fits = (start_ok r z.0).fits;
      tagged = eqb-true _ _ (not-false _ p.0);
      four = eqb-true _ _ (not-false _ p.1.0);
      some = ltb-false _ _ p.1.1.0;
      variables = ltb-false _ _ p.1.1.1.0;
      groups = ltb-false _ _ p.1.1.1.1.0;
    }

pub header_none : (r : List ℕ) → HeaderOk r → wrong_header r ≡ 0
unfolding wrong_header first ◌or_else◌
header_none r k =
    simp (
      start_none r (record { fits = k.fits; known = omega (arith, k.tagged) }),
      eq-eqb (tag r) 1 k.tagged,
      eq-eqb (len r) 4 k.four,
      le-ltb (variables_of r) 1 k.some,
      le-ltb most_variables (variables_of r) k.variables,
      le-ltb most_groups (groups_of r) k.groups,
    )

pub shape_least : (left : ℕ) (r : List ℕ) → first (shape_tests left r) ≡ 0 → 4 ≤ len r
shape_least left r h = ltb-false _ _ (first_clear (shape_tests left r) h).0

pub record ClauseOk (v g left : ℕ) (r : List ℕ) : Type 0 where
  pub least : 4 ≤ len r
  pub even : len r % 2 ≡ 0
  pub most : len r ≤ 68
  pub room : 1 ≤ left
  pub group : group_of r ≤ g
  pub head : head_of r ≤ v
  pub inside : within 1 v (words (body_part r)) ≡ true
  pub rises : rising 0 (words (body_part r)) ≡ true

pub clause_ok : (v g left : ℕ) (r : List ℕ) → wrong_clause v g left r ≡ 0 → ClauseOk v g left r
unfolding wrong_clause
clause_ok v g left r h =
    let z = or_zero (first (shape_tests left r)) (first (number_tests v g r)) h in
    let p = first_clear (shape_tests left r) z.0 in
    let q = first_clear (number_tests v g r) z.1 in
    record {
      least = ltb-false _ _ p.0;
      even = let o : len r % 2 ≡ 1 → ⊥ = eqb-false _ _ p.1.0 in omega arith;
      most = ltb-false _ _ p.1.1.0;
      room = let o : left ≡ 0 → ⊥ = eqb-false _ _ p.1.1.1.0 in omega arith;
      group = ltb-false _ _ q.0;
      head = ltb-false _ _ q.1.0;
      inside = not-false _ q.1.1.0;
      rises = not-false _ q.1.1.1.0;
    }

pub clause_none : (v g left : ℕ) (r : List ℕ) → ClauseOk v g left r → wrong_clause v g left r ≡ 0
unfolding wrong_clause first ◌or_else◌
clause_none v g left r k =
    let e : len r % 2 ≡ 1 → ⊥ = λ z. omega (arith, k.even) in
    let n : left ≡ 0 → ⊥ = λ z. omega (arith, k.room) in
    simp (
      le-ltb (len r) 4 k.least,
      ne_eqb (len r % 2) 1 e,
      le-ltb 68 (len r) k.most,
      ne_eqb left 0 n,
      le-ltb g (group_of r) k.group,
      le-ltb v (head_of r) k.head,
      k.inside,
      k.rises,
    )

pub record FieldOk (v g left : ℕ) (r : List ℕ) : Type 0 where
  pub start : StartOk r
  pub later : tag r ≡ 1 → ⊥
  pub ends : tag r ≡ 0 → len r ≡ 0
  pub holds : (tag r ≡ 0 → ⊥) → ClauseOk v g left r

pub field_ok : (v g left : ℕ) (r : List ℕ) → wrong_field v g left r ≡ 0 → FieldOk v g left r
unfolding wrong_field
field_ok v g left r h =
    let tagged = cond (eqb (tag r) 0) (first (end_tests r)) (wrong_clause v g left r) in
    let a = or_zero (first (start_tests r)) (first (later_tests r) or_else tagged) h in
    let b = or_zero (first (later_tests r)) tagged a.1 in
    record {
      start = start_ok r a.0;
      later = eqb-false _ _ (first_clear (later_tests r) b.0).0;
      ends = λ e. eqb-true _ _ (not-false _ (first_clear (end_tests r) (simp (eq-eqb (tag r) 0 e) at b.1)).0);
      holds = λ e. clause_ok v g left r (simp (ne_eqb (tag r) 0 e) at b.1);
    }

pub field_none : (v g left : ℕ) (r : List ℕ) → FieldOk v g left r → wrong_field v g left r ≡ 0
unfolding wrong_field first ◌or_else◌
field_none v g left r k = go (tag r) refl
  where
    go : (t : ℕ) → tag r ≡ t → first (start_tests r) or_else first (later_tests r) or_else cond (eqb (tag r) 0) (first (end_tests r)) (wrong_clause v g left r) ≡ 0
    go zero e = simp (start_none r k.start, ne_eqb (tag r) 1 k.later, eq-eqb (tag r) 0 e, eq-eqb (len r) 0 (k.ends e))
    go (suc t) e =
        let n : tag r ≡ 0 → ⊥ = λ z. omega arith in
        simp (start_none r k.start, ne_eqb (tag r) 1 k.later, ne_eqb (tag r) 0 n, clause_none v g left r (k.holds n))
