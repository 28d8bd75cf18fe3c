-- What is read is what was written: where bytes are accepted as a book, it is well formed and its bytes are those.
--   Back v g left r cs      the fields r are the bytes of the clauses cs
--   fields_back             that is so where they are read as those
--   Read, reading_is        the same of a whole book
-- Assumes nothing.
use Prim.Native.Nat.{ℕ, zero, suc, ◌+◌, ◌-◌, ◌*◌, ◌/◌, ◌%◌, ◌≤◌}
use mathlib.Core.Path.{◌≡◌, refl, sym, ap, ◌∙◌}
use mathlib.Core.List.{List, [], ◌∷◌, ◌++◌}
use native.Mathlib.Omega.{arith}
use native.Mathlib.Decide.{dec_le}
use lib.ListN.{length, get_or, take, drop, length-drop, take-append-drop}
use lib.Seq.{length-take-le, drop-drop}
use Rattle.answer.specs.Answer.{answered}
use Rattle.answer.proofs.Answers.{never, then_is}
use Rattle.field.specs.Words.{Bytes, words, word_bytes}
use Rattle.field.specs.Field.{tag, len, size, after, field_bytes}
use Rattle.field.proofs.Words.{byte_at, bytes_drop, bytes_take, high_byte, low_byte, bytes_words, length_words, one_within}
use Rattle.meaning.specs.Book.{Clause, Book}
use Rattle.book.specs.Bytes.{most_bytes, most_clauses, GoodClause, GoodClauses, WellFormed, clause_bytes, clauses_bytes, bytes_of}
use Rattle.book.specs.Reading.{variables_of, groups_of, group_of, head_of, body_part, clause_of, wrong_header, wrong_field, ending, fields, with_clauses, reading}
use Rattle.book.proofs.Tests.{HeaderOk, header_ok, ClauseOk, field_ok}
use Rattle.book.proofs.Fields.{fields_bad, fields_end, fields_clause, reading_long, reading_bad, reading_fields}

-- seven bytes and the rest
seven : (r : List ℕ) → 7 ≤ length r
    → r ≡ get_or r 0 0 ∷ (get_or r 1 0 ∷ (get_or r 2 0 ∷ (get_or r 3 0 ∷ (get_or r 4 0 ∷ (get_or r 5 0 ∷ (get_or r 6 0 ∷ drop 7 r))))))
seven [] h = absurd (omega arith)
seven (a ∷ []) h = absurd (omega arith)
seven (a ∷ (b ∷ [])) h = absurd (omega arith)
seven (a ∷ (b ∷ (c ∷ []))) h = absurd (omega arith)
seven (a ∷ (b ∷ (c ∷ (d ∷ [])))) h = absurd (omega arith)
seven (a ∷ (b ∷ (c ∷ (d ∷ (e ∷ []))))) h = absurd (omega arith)
seven (a ∷ (b ∷ (c ∷ (d ∷ (e ∷ (f ∷ [])))))) h = absurd (omega arith)
seven (a ∷ (b ∷ (c ∷ (d ∷ (e ∷ (f ∷ (g ∷ r))))))) h = refl

-- a field with two numbers first in its value is what it spells
spelled : (t : ℕ) (r ws : List ℕ) → Bytes r → tag r ≡ t → 4 ≤ len r → size r ≤ length r → word_bytes ws ≡ take (len r - 4) (drop 7 r)
    → field_bytes t (word_bytes (group_of r ∷ (head_of r ∷ ws))) ++ after r ≡ r
unfolding field_bytes word_bytes
spelled t r ws bytes e least fits part =
    let at = byte_at r bytes in
    let here : length (word_bytes ws) ≡ len r - 4 = ap length part ∙ length-take-le (len r - 4) (drop 7 r) (omega (arith, length-drop 7 r)) in
    let n : suc (suc (suc (suc (length (word_bytes ws))))) ≡ len r = omega arith in
    let n1 : suc (suc (suc (suc (length (word_bytes ws))))) / 256 ≡ get_or r 1 0 = ap (λ (k : ℕ). k / 256) n ∙ high_byte _ _ (at 2) in
    let n2 : suc (suc (suc (suc (length (word_bytes ws))))) % 256 ≡ get_or r 2 0 = ap (λ (k : ℕ). k % 256) n ∙ low_byte _ _ (at 2) in
    let g1 : group_of r / 256 ≡ get_or r 3 0 = high_byte _ _ (at 4) in
    let g2 : group_of r % 256 ≡ get_or r 4 0 = low_byte _ _ (at 4) in
    let h1 : head_of r / 256 ≡ get_or r 5 0 = high_byte _ _ (at 6) in
    let h2 : head_of r % 256 ≡ get_or r 6 0 = low_byte _ _ (at 6) in
    let k : 7 + (len r - 4) ≡ size r = omega arith in
    let x : word_bytes ws ++ after r ≡ drop 7 r =
    ap (λ (l : List ℕ). l ++ after r) part
    ∙ ap (λ (j : ℕ). take (len r - 4) (drop 7 r) ++ drop j r) (sym k)
    ∙ ap (λ (l : List ℕ). take (len r - 4) (drop 7 r) ++ l) (sym (drop-drop (len r - 4) 7 r))
    ∙ take-append-drop (len r - 4) (drop 7 r) in
    let whole = seven r (omega arith) in
    cc

-- a right clause
module _ (v g left : ℕ) (r : List ℕ) (bytes : Bytes r) (fits : size r ≤ length r) (ok : ClauseOk v g left r) where
  part_length : length (body_part r) ≡ len r - 4
  part_length = length-take-le (len r - 4) (drop 7 r) (omega (arith, length-drop 7 r, ok.least))

  part_back : word_bytes (words (body_part r)) ≡ body_part r
  part_back = bytes_words (body_part r) (bytes_take (len r - 4) (drop 7 r) (bytes_drop 7 r bytes)) (omega (arith, part_length, ok.least, ok.even))

  clause_good : GoodClause v g (clause_of r)
  clause_good =
      record {
        one = refl;
        inside = one_within 0 g (group_of r) (omega arith) ok.group;
        head = ok.head;
        few = omega (arith, length_words (body_part r), part_length, ok.most);
        variables = ok.inside;
        rises = ok.rises;
      }

  clause_back : tag r ≡ 2 → clause_bytes (clause_of r) ++ after r ≡ r
  unfolding clause_bytes
  clause_back t = spelled 2 r (words (body_part r)) bytes t ok.least fits part_back

-- the end
end_back : (r : List ℕ) → size r ≤ length r → tag r ≡ 0 → len r ≡ 0 → length (after r) ≤ 0 → field_bytes 0 [] ≡ r
unfolding field_bytes
end_back [] fits t l none = absurd (omega arith)
end_back (a ∷ []) fits t l none = absurd (omega arith)
end_back (a ∷ (b ∷ [])) fits t l none = absurd (omega arith)
end_back (a ∷ (b ∷ (c ∷ []))) fits t l none =
    let t' : a ≡ 0 = t in
    let l' : b * 256 + c ≡ 0 = l in
    let b' : b ≡ 0 = omega arith in
    let c' : c ≡ 0 = omega arith in
    cc
end_back (a ∷ (b ∷ (c ∷ (d ∷ r)))) fits t l none =
    let h = length-drop (size (a ∷ (b ∷ (c ∷ (d ∷ r))))) (a ∷ (b ∷ (c ∷ (d ∷ r)))) in
    absurd (omega arith)

ending_is : (at : ℕ) (r : List ℕ) (cs : List Clause) → ending at r ≡ answered cs → (length r ≤ 0) × (cs ≡ [])
unfolding ending
ending_is at [] cs h = (omega arith, cc)
ending_is at (a ∷ r) cs h = absurd (never cs 9 at (sym h))

record Back (v g left : ℕ) (r : List ℕ) (cs : List Clause) : Type 0 where
  good : GoodClauses v g cs
  most : length cs ≤ left
  bytes : clauses_bytes cs ≡ r

module _ (v g : ℕ) where
  back_end : (left at : ℕ) (r : List ℕ) (cs : List Clause) → wrong_field v g left r ≡ 0 → tag r ≡ 0 → fields v g left at r ≡ answered cs → Back v g left r cs
  unfolding clauses_bytes
  back_end left at r cs right t h =
      let k = field_ok v g left r right in
      let e = ending_is (at + size r) (after r) cs (sym (fields_end v g left at r right t) ∙ h) in
      simp e.1 (record { good = tt; most = omega arith; bytes = end_back r k.start.fits t (k.ends t) e.0 })

  back_clause : (left at : ℕ) (r : List ℕ) (cs : List Clause) → Bytes r → wrong_field v g (suc left) r ≡ 0 → (tag r ≡ 0 → ⊥)
      → ((ds : List Clause) → fields v g left (at + size r) (after r) ≡ answered ds → Back v g left (after r) ds)
      → fields v g (suc left) at r ≡ answered cs
      → Back v g (suc left) r cs
  unfolding clauses_bytes
  back_clause left at r cs bytes right t again h =
      let k = field_ok v g (suc left) r right in
      let two : tag r ≡ 2 = omega (arith, k.start.known, k.later) in
      let e = then_is (fields v g left (at + size r) (after r)) (λ ds. answered (clause_of r ∷ ds)) cs (sym (fields_clause v g left at r right t) ∙ h) in
      let b = again e.0 e.1 in
      let is : clause_of r ∷ e.0 ≡ cs = let q = e.2 in cc in
      simp (← is)
      (record {
        good = (clause_good v g (suc left) r bytes k.start.fits (k.holds t), b.good);
        most = omega (arith, b.most);
        bytes = ap (λ (l : List ℕ). clause_bytes (clause_of r) ++ l) b.bytes ∙ clause_back v g (suc left) r bytes k.start.fits (k.holds t) two;
      })

  not_bad : (left at : ℕ) (r : List ℕ) (cs : List Clause) (n : ℕ) → wrong_field v g left r ≡ suc n → fields v g left at r ≡ answered cs → ⊥
  not_bad left at r cs n e h = never cs (suc n) at (sym h ∙ fields_bad v g left at r (suc n) (sym e) (λ z. omega arith))

  fields_back : (left at : ℕ) (r : List ℕ) (cs : List Clause) → Bytes r → fields v g left at r ≡ answered cs → Back v g left r cs
  fields_back zero at r cs bytes h = go (wrong_field v g zero r) refl (tag r) refl
    where
      go : (n : ℕ) → wrong_field v g zero r ≡ n → (m : ℕ) → tag r ≡ m → Back v g zero r cs
      go (suc n) e m t = absurd (not_bad zero at r cs n e h)
      go zero e zero t = back_end zero at r cs e t h
      go zero e (suc m) t = let other : tag r ≡ 0 → ⊥ = λ z. omega arith in absurd (omega (arith, ((field_ok v g zero r e).holds other).room))
  fields_back (suc left) at r cs bytes h = go (λ ds. fields_back left (at + size r) (after r) ds (bytes_drop (size r) r bytes)) (wrong_field v g (suc left) r) refl (tag r) refl
    where
      go : ((ds : List Clause) → fields v g left (at + size r) (after r) ≡ answered ds → Back v g left (after r) ds)
          → (n : ℕ) → wrong_field v g (suc left) r ≡ n → (m : ℕ) → tag r ≡ m → Back v g (suc left) r cs
      go again (suc n) e m t = absurd (not_bad (suc left) at r cs n e h)
      go again zero e zero t = back_end (suc left) at r cs e t h
      go again zero e (suc m) t = back_clause left at r cs bytes e (λ z. omega arith) again h

-- the header
header_back : (s : List ℕ) → Bytes s → HeaderOk s → field_bytes 1 (word_bytes (variables_of s ∷ (groups_of s ∷ []))) ++ drop 7 s ≡ s
unfolding word_bytes
header_back s bytes k =
    let e : 0 ≡ len s - 4 = omega (arith, k.four) in
    let n : size s ≡ 7 = omega (arith, k.four) in
    simp n at (spelled 1 s [] bytes k.tagged (omega (arith, k.four)) k.fits (ap (λ (j : ℕ). take j (drop 7 s)) e))

short_of : (s : List ℕ) (b : Book) → reading s ≡ answered b → length s ≤ most_bytes
short_of s b h = go (dec_le (length s) most_bytes)
  where
    go : Dec (length s ≤ most_bytes) → length s ≤ most_bytes
    go (yes p) = p
    go (no p) = absurd (never b 1 0 (sym h ∙ reading_long s (omega arith)))

right_of : (s : List ℕ) (b : Book) → length s ≤ most_bytes → reading s ≡ answered b → wrong_header s ≡ 0
right_of s b short h = go (wrong_header s) refl
  where
    go : (n : ℕ) → wrong_header s ≡ n → wrong_header s ≡ 0
    go zero e = e
    go (suc n) e = absurd (never b (suc n) 0 (sym h ∙ reading_bad s short (suc n) (sym e) (λ z. omega arith)))

pub record Read (s : List ℕ) (b : Book) : Type 0 where
  pub good : WellFormed b
  pub short : length s ≤ most_bytes
  pub bytes : bytes_of b ≡ s

pub reading_is : (s : List ℕ) (b : Book) → Bytes s → reading s ≡ answered b → Read s b
unfolding bytes_of
reading_is s b bytes h =
    let short = short_of s b h in
    let right = right_of s b short h in
    let ok = header_ok s right in
    let v = variables_of s in
    let g = groups_of s in
    let w = then_is (fields v g most_clauses 7 (drop 7 s)) (with_clauses v g) b (sym (reading_fields s short right) ∙ h) in
    let f : Back v g most_clauses (drop 7 s) w.0 = fields_back v g most_clauses 7 (drop 7 s) w.0 (bytes_drop 7 s bytes) w.1 in
    let is : record { variables = v; groups = g; clauses = w.0 } ≡ b = let q = w.2 in cc in
    simp (← is)
    (record {
      good = record { some = ok.some; variables = ok.variables; groups = ok.groups; clauses = f.most; good = f.good };
      short = short;
      bytes = ap (λ (l : List ℕ). field_bytes 1 (word_bytes (v ∷ (g ∷ []))) ++ l) f.bytes ∙ header_back s bytes ok;
    })
