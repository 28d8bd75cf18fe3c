-- How the reading of a book goes on, one field at a time.
--   fields_bad, fields_end, fields_clause      by what stands first
--   ending_none, ending_more                   by what follows the end
--   reading_long, reading_bad, reading_fields  by the header
-- Assumes nothing.
use Prim.Native.Nat.{ℕ, zero, suc, ◌+◌, ◌≤◌, ◌<◌}
use mathlib.Core.Path.{◌≡◌, refl, ap, ◌∙◌}
use mathlib.Core.List.{List, [], ◌∷◌}
use mathlib.Core.Option.{none, some}
use native.Mathlib.Omega.{arith}
use lib.ListN.{length, drop}
use borrow.Author.Tests.{lt-ltb, le-ltb, eq-eqb, ne_eqb}
use Rattle.answer.specs.Answer.{answered, refused, and_then, first, ◌or_else◌}
use Rattle.answer.proofs.Answers.{then_by, then_not, unless_none, unless_some}
use Rattle.field.specs.Field.{tag, size, after}
use Rattle.book.specs.Bytes.{most_bytes, most_clauses}
use Rattle.book.specs.Reading.{variables_of, groups_of, clause_of, wrong_header, wrong_field, field, ending, following, fields, header, with_clauses, reading}
use Rattle.book.proofs.Tests.{header_ok}

module _ (v g left at : ℕ) (r : List ℕ) where
  field_bad : (n : ℕ) → n ≡ wrong_field v g left r → (n ≡ 0 → ⊥) → field v g left at r ≡ refused n at
  unfolding field
  field_bad n e h = unless_some n _ at _ e h

  module _ (right : wrong_field v g left r ≡ 0) where
    field_end : tag r ≡ 0 → field v g left at r ≡ answered none
    unfolding field
    field_end t = unless_none (wrong_field v g left r) at _ right ∙ simp (eq-eqb (tag r) 0 t)

    field_clause : (tag r ≡ 0 → ⊥) → field v g left at r ≡ answered (some (clause_of r))
    unfolding field
    field_clause t = unless_none (wrong_field v g left r) at _ right ∙ simp (ne_eqb (tag r) 0 t)

module _ (v g : ℕ) where
  pub fields_bad : (left at : ℕ) (r : List ℕ) (n : ℕ) → n ≡ wrong_field v g left r → (n ≡ 0 → ⊥) → fields v g left at r ≡ refused n at
  unfolding fields
  fields_bad zero at r n e h = then_not _ n at _ (field_bad v g zero at r n e h)
  fields_bad (suc left) at r n e h = then_not _ n at _ (field_bad v g (suc left) at r n e h)

  pub fields_end : (left at : ℕ) (r : List ℕ) → wrong_field v g left r ≡ 0 → tag r ≡ 0 → fields v g left at r ≡ ending (at + size r) (after r)
  unfolding fields following
  fields_end zero at r e t = then_by _ none _ (field_end v g zero at r e t)
  fields_end (suc left) at r e t = then_by _ none _ (field_end v g (suc left) at r e t)

  pub fields_clause : (left at : ℕ) (r : List ℕ) → wrong_field v g (suc left) r ≡ 0 → (tag r ≡ 0 → ⊥)
      → fields v g (suc left) at r ≡ and_then (fields v g left (at + size r) (after r)) (λ cs. answered (clause_of r ∷ cs))
  unfolding fields following
  fields_clause left at r e t = then_by _ (some (clause_of r)) _ (field_clause v g (suc left) at r e t)

pub ending_none : (at : ℕ) (r : List ℕ) → length r ≤ 0 → ending at r ≡ answered []
unfolding ending
ending_none at [] h = refl
ending_none at (a ∷ r) h = absurd (omega arith)

pub ending_more : (at : ℕ) (r : List ℕ) → 0 < length r → ending at r ≡ refused 9 at
unfolding ending
ending_more at [] h = absurd (omega arith)
ending_more at (a ∷ r) h = refl

module _ (s : List ℕ) where
  pub reading_long : most_bytes < length s → reading s ≡ refused 1 0
  unfolding reading header first ◌or_else◌
  reading_long h = then_not _ 1 0 _ (simp (lt-ltb most_bytes (length s) h) (unless_some 1 1 0 _ refl (λ z. omega arith)))

  module _ (short : length s ≤ most_bytes) where
    pub reading_bad : (n : ℕ) → n ≡ wrong_header s → (n ≡ 0 → ⊥) → reading s ≡ refused n 0
    unfolding reading header first ◌or_else◌
    reading_bad n e h = then_not _ n 0 _ (simp (le-ltb most_bytes (length s) short) (unless_some n (wrong_header s) 0 _ e h))

    header_is : wrong_header s ≡ 0 → header s ≡ with_clauses (variables_of s) (groups_of s) []
    unfolding header first ◌or_else◌
    header_is e = simp (le-ltb most_bytes (length s) short) (unless_none (wrong_header s) 0 _ e)

    pub reading_fields : wrong_header s ≡ 0 → reading s ≡ and_then (fields (variables_of s) (groups_of s) most_clauses 7 (drop 7 s)) (with_clauses (variables_of s) (groups_of s))
    unfolding reading
    reading_fields e =
        let k : size s ≡ 7 = omega (arith, (header_ok s e).four) in
        then_by _ _ _ (header_is e)
        ∙ ap (λ (n : ℕ). and_then (fields (variables_of s) (groups_of s) most_clauses n (drop n s)) (with_clauses (variables_of s) (groups_of s))) k
