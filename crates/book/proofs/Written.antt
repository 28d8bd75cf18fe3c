-- What is written is read back: reading the bytes of a well_formed book, if they are at most 65,535, gives that book.
--   Starts c rest r      reading finds the clause c first in r, and then rest
--   starts               that is so where c was written
--   header_after         what follows the header
--   fields_written       the clauses are read back
--   reading_written      the whole book is
-- Assumes nothing.
use Prim.Native.Nat.{ℕ, zero, suc, ◌+◌, ◌-◌, ◌*◌, ◌≤◌}
use mathlib.Core.Path.{◌≡◌, refl, sym, ap, ◌∙◌}
use mathlib.Core.List.{List, [], ◌∷◌, ◌++◌}
use native.Mathlib.Omega.{arith}
use lib.ListN.{length, take, drop}
use lib.Seq.{take-append_seam}
use Rattle.answer.specs.Answer.{answered}
use Rattle.answer.proofs.Answers.{then_by}
use Rattle.field.specs.Words.{word_bytes}
use Rattle.field.specs.Field.{tag, len, size, after, field_bytes}
use Rattle.field.proofs.Words.{two_bytes, words_bytes, length_word_bytes, within_one}
use Rattle.field.proofs.Fields.{field_tag, field_len, field_fits, field_after}
use Rattle.meaning.specs.Book.{Clause, Book}
use Rattle.book.specs.Bytes.{most_bytes, most_variables, most_groups, most_clauses, GoodClause, GoodClauses, WellFormed, clause_bytes, clauses_bytes, bytes_of}
use Rattle.book.specs.Reading.{variables_of, groups_of, group_of, head_of, body_part, clause_of, wrong_field, fields, reading}
use Rattle.book.proofs.Tests.{HeaderOk, header_none, ClauseOk, field_none}
use Rattle.book.proofs.Fields.{fields_end, fields_clause, ending_none, reading_fields}

pub record Starts (c : Clause) (rest r : List ℕ) : Type 0 where
  pub tagged : tag r ≡ 2
  pub long : len r ≡ 4 + 2 * length c.body
  pub fits : size r ≤ length r
  pub groups : group_of r ∷ [] ≡ c.groups
  pub head : head_of r ≡ c.head
  pub part : body_part r ≡ word_bytes c.body
  pub follows : after r ≡ rest

-- a clause of one group
module _ (g h : ℕ) (b rest : List ℕ) where
  abbrev r : List ℕ
  r = field_bytes 2 (word_bytes (g ∷ (h ∷ b))) ++ rest

  one_len : len r ≡ 4 + 2 * length b
  one_len =
      let e : 2 * length (g ∷ (h ∷ b)) ≡ 4 + 2 * length b = omega arith in
      field_len 2 (word_bytes (g ∷ (h ∷ b))) rest ∙ length_word_bytes (g ∷ (h ∷ b)) ∙ e

  one_part : body_part r ≡ word_bytes b
  unfolding field_bytes word_bytes
  one_part =
      let e : len r - 4 ≡ length (word_bytes b) = omega (arith, one_len, length_word_bytes b) in
      ap (λ (k : ℕ). take k (word_bytes b ++ rest)) e ∙ take-append_seam (word_bytes b) rest

  one_group : group_of r ≡ g
  unfolding field_bytes word_bytes
  one_group = two_bytes g

  one_head : head_of r ≡ h
  unfolding field_bytes word_bytes
  one_head = two_bytes h

pub starts : (c : Clause) (rest : List ℕ) → length c.groups ≡ 1 → Starts c rest (clause_bytes c ++ rest)
unfolding clause_bytes
starts c rest one = go c.groups refl
  where
    go : (gs : List ℕ) → c.groups ≡ gs → Starts c rest (field_bytes 2 (word_bytes (c.groups ++ (c.head ∷ c.body))) ++ rest)
    go [] e = absurd (omega (arith, ap length e))
    go (g ∷ []) e =
        let value : List ℕ = word_bytes (g ∷ (c.head ∷ c.body)) in
        simp e
        (record {
          tagged = field_tag 2 value rest;
          long = one_len g c.head c.body rest;
          fits = field_fits 2 value rest;
          groups = ap (λ (k : ℕ). k ∷ []) (one_group g c.head c.body rest) ∙ sym e;
          head = one_head g c.head c.body rest;
          part = one_part g c.head c.body rest;
          follows = field_after 2 value rest;
        })
    go (g ∷ (h ∷ gs)) e = absurd (omega (arith, ap length e))

-- so the clause is read back
starts_is : (c : Clause) (rest r : List ℕ) → Starts c rest r → clause_of r ≡ c
starts_is c rest r s = simp (s.groups, s.head, s.part, words_bytes)

starts_ok : (v g left : ℕ) (c : Clause) (rest r : List ℕ) → GoodClause v g c → Starts c rest r → ClauseOk v g (suc left) r
starts_ok v g left c rest r k s =
    record {
      least = omega (arith, s.long);
      even = omega (arith, s.long);
      most = omega (arith, s.long, k.few);
      room = omega arith;
      group = within_one 0 g (group_of r) (simp s.groups k.inside);
      head = omega (arith, s.head, k.head);
      inside = simp (s.part, words_bytes) k.variables;
      rises = simp (s.part, words_bytes) k.rises;
    }

clause_right : (v g left : ℕ) (c : Clause) (rest r : List ℕ) → GoodClause v g c → Starts c rest r → wrong_field v g (suc left) r ≡ 0
clause_right v g left c rest r k s =
    field_none v g (suc left) r
    (record {
      start = record { fits = s.fits; known = omega (arith, s.tagged) };
      later = λ e. omega (arith, s.tagged);
      ends = λ e. absurd (omega (arith, s.tagged));
      holds = λ e. starts_ok v g left c rest r k s;
    })

end_right : (v g left : ℕ) → wrong_field v g left (field_bytes 0 []) ≡ 0
unfolding field_bytes
end_right v g left =
    field_none v g left (field_bytes 0 [])
    (record { start = record { fits = omega arith; known = omega arith }; later = λ e. omega arith; ends = λ e. refl; holds = λ e. absurd (e refl) })

fields_none : (v g left at : ℕ) → fields v g left at (field_bytes 0 []) ≡ answered []
unfolding field_bytes
fields_none v g left at = fields_end v g left at (field_bytes 0 []) (end_right v g left) refl ∙ ending_none (at + 3) [] (omega arith)

fields_written : (v g left at : ℕ) (cs : List Clause) → GoodClauses v g cs → length cs ≤ left → fields v g left at (clauses_bytes cs) ≡ answered cs
unfolding clauses_bytes
fields_written v g left at [] good h = fields_none v g left at
fields_written v g zero at (c ∷ cs) good h = absurd (omega arith)
fields_written v g (suc left) at (c ∷ cs) good h =
    let r : List ℕ = clause_bytes c ++ clauses_bytes cs in
    let s : Starts c (clauses_bytes cs) r = starts c (clauses_bytes cs) good.0.one in
    let right : wrong_field v g (suc left) r ≡ 0 = clause_right v g left c (clauses_bytes cs) r good.0 s in
    let other : tag r ≡ 0 → ⊥ = λ z. omega (arith, s.tagged) in
    let rest : fields v g left (at + size r) (after r) ≡ answered cs =
    ap (fields v g left (at + size r)) s.follows ∙ fields_written v g left (at + size r) cs good.1 (omega arith) in
    fields_clause v g left at r right other ∙ then_by _ cs _ rest ∙ ap (λ (d : Clause). answered (d ∷ cs)) (starts_is c (clauses_bytes cs) r s)

-- the header
module _ (v g : ℕ) (rest : List ℕ) where
  abbrev s : List ℕ
  s = field_bytes 1 (word_bytes (v ∷ (g ∷ []))) ++ rest

  header_variables : variables_of s ≡ v
  unfolding field_bytes word_bytes
  header_variables = two_bytes v

  header_groups : groups_of s ≡ g
  unfolding field_bytes word_bytes
  header_groups = two_bytes g

  pub header_after : drop 7 s ≡ rest
  unfolding field_bytes word_bytes
  header_after = refl

  header_written : 1 ≤ v → v ≤ most_variables → g ≤ most_groups → HeaderOk s
  header_written a b k =
      let value : List ℕ = word_bytes (v ∷ (g ∷ [])) in
      record {
        fits = field_fits 1 value rest;
        tagged = field_tag 1 value rest;
        four = field_len 1 value rest ∙ length_word_bytes (v ∷ (g ∷ []));
        some = omega (arith, header_variables);
        variables = omega (arith, header_variables);
        groups = omega (arith, header_groups);
      }

pub reading_written : (b : Book) → WellFormed b → length (bytes_of b) ≤ most_bytes → reading (bytes_of b) ≡ answered b
unfolding bytes_of
reading_written b k short =
    let v = b.variables in
    let g = b.groups in
    let cs : List ℕ = clauses_bytes b.clauses in
    let ok = header_written v g cs k.some k.variables k.groups in
    reading_fields (s v g cs) short (header_none (s v g cs) ok)
    ∙ simp (header_variables v g cs, header_groups v g cs, header_after v g cs)
    (then_by _ b.clauses _ (fields_written v g most_clauses 7 b.clauses k.good k.clauses))
