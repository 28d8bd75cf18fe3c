-- A book that was taken, from a plain form or a text, is written: what is answered and left, by what it was taken as.
--   taken_refused, taken_book      what was taken, by what is said of it
--   Put a out r new       what a call is to answer and to leave that writes the book a
--   put_one               it determines the answer and the space
--   put_refused, put_wrong, put_written      the three ways; by the tests of its room
--   put_room              where they hold of nothing, it fits
-- Assumes nothing.
use Prim.Native.Nat.{ℕ, ◌+◌, ◌≤◌}
use mathlib.Core.Path.{◌≡◌, refl, sym, ap, ◌∙◌}
use mathlib.Core.Bool.{Bool, true, false, cond}
use mathlib.Core.List.{List, [], ◌∷◌}
use native.Mathlib.Omega.{arith}
use lib.ListN.{length}
use lib.Dec.{ltb}
use borrow.Author.Tests.{ltb-false}
use Rattle.std.specs.Prelude.{Result, Ok, Err}
use Rattle.answer.specs.Answer.{Answer, answered, refused, and_then, ◌⇒◌, first, unless}
use Rattle.answer.specs.Refusals.{number_of}
use Rattle.answer.specs.declared.Refusal.{Refusal}
use Rattle.answer.specs.Space.{fitting, Wrote}
use Rattle.answer.proofs.Answers.{never, then_by, then_not, unless_none, unless_some}
use Rattle.answer.proofs.Refusals.{number_some}
use Rattle.answer.proofs.Tests.{first_clear}
use Rattle.answer.proofs.Spaces.{Told, told_one, told_refused, told_written, wrote_append}
use Rattle.field.specs.Words.{word_bytes}
use Rattle.field.specs.Field.{field_bytes}
use Rattle.field.proofs.Words.{length_word_bytes}
use Rattle.field.proofs.Fields.{length_field}
use Rattle.meaning.specs.Book.{Book}
use Rattle.book.specs.Bytes.{most_bytes, clauses_bytes, bytes_of, bytes_in}
use Rattle.book.specs.Walk.{taken}
use Rattle.writer.specs.Steps.{taken_of, room_tests}
use Rattle.writer.specs.declared.Taken.{Taken}

pub taken_refused : (a : Answer Book) (n i : ℕ) → refused n i ≡ taken_of a → a ≡ refused n i
unfolding taken_of
taken_refused (answered b) n i h = absurd (never _ n i (sym h))
taken_refused (refused m p) n i h = cc

pub taken_book : (a : Answer Book) (t : Taken) → answered t ≡ taken_of a
    → (a ≡ answered (taken a)) × (t.variables ≡ (taken a).variables) × (t.groups ≡ (taken a).groups) × (t.length ≡ length (bytes_of (taken a)))
unfolding taken_of taken
taken_book (answered b) t h =
    let e : t ≡ record { variables = b.variables; groups = b.groups; length = length (bytes_of b) } = cc in
    (refl, ap (λ (k : Taken). k.variables) e, ap (λ (k : Taken). k.groups) e, ap (λ (k : Taken). k.length) e)
taken_book (refused m p) t h = absurd (never t m p h)

-- the header and then the clauses are the book
whole_wrote : (b : Book) (out o1 : List ℕ) (a : ℕ) (o2 : List ℕ) (n v g : ℕ) → v ≡ b.variables → g ≡ b.groups
    → Wrote out 0 (field_bytes 1 (word_bytes (v ∷ g ∷ []))) o1 a → Wrote o1 7 (clauses_bytes b.clauses) o2 n → Wrote out 0 (bytes_of b) o2 n
unfolding bytes_of
whole_wrote b out o1 a o2 n v g ev eg p q =
    let seven : a ≡ 7 = omega (arith, p.place, header_seven v g) in
    let r : Wrote o1 a (clauses_bytes b.clauses) o2 n = simp seven q in
    let w = wrote_append out 0 (field_bytes 1 (word_bytes (v ∷ g ∷ []))) o1 a (clauses_bytes b.clauses) o2 n p r in
    simp (← ev, ← eg) w
  where
    header_seven : (v g : ℕ) → length (field_bytes 1 (word_bytes (v ∷ g ∷ []))) ≡ 7
    header_seven v g = length_field 1 (word_bytes (v ∷ g ∷ [])) ∙ ap (λ (k : ℕ). 3 + k) (length_word_bytes (v ∷ g ∷ []))

module _ (a : Answer Book) (out : List ℕ) where
  abbrev pub Put : Result ℕ Refusal → List ℕ → Type 0
  Put r new = Told (and_then a (bytes_in (length out))) out r new

  pub put_one : (r r' : Result ℕ Refusal) (new new' : List ℕ) → Put r new → Put r' new' → (r ≡ r') × (new ≡ new')
  put_one = told_one (and_then a (bytes_in (length out))) out

  pub put_refused : (r : Refusal) → a ≡ refused (number_of r.cause) r.place → Put (Err r) out
  put_refused r e = told_refused _ out r (then_not a (number_of r.cause) r.place _ e)

  module _ (b : Book) (is : a ≡ answered b) (n : ℕ) (size : n ≡ length (bytes_of b)) where
    on : and_then a (bytes_in (length out)) ≡ unless (first (room_tests (length out) n)) 0 (answered (bytes_of b))
    unfolding fitting unless first
    on = then_by a b _ is ∙ simp size (go (ltb most_bytes (length (bytes_of b))))
      where
        go : (long : Bool) → unless (cond long 1 0) 0 (fitting (length out) (bytes_of b)) ≡ unless (first ((long ⇒ 1) ∷ (ltb (length out) (length (bytes_of b)) ⇒ 11) ∷ [])) 0 (answered (bytes_of b))
        go true = refl
        go false = refl

    pub put_wrong : (r : Refusal) → number_of r.cause ≡ first (room_tests (length out) n) → r.place ≡ 0 → Put (Err r) out
    put_wrong r e z = told_refused _ out r (on ∙ unless_some (number_of r.cause) _ 0 _ e (number_some r.cause) ∙ ap (refused (number_of r.cause)) (sym z))

    module _ (fits : first (room_tests (length out) n) ≡ 0) where
      pub put_room : length (bytes_of b) ≤ length out
      put_room = omega (arith, ltb-false _ _ (first_clear (room_tests (length out) n) fits).1.0)

      pub put_written : (o1 : List ℕ) (k : ℕ) (o2 : List ℕ) (m v g : ℕ) → v ≡ b.variables → g ≡ b.groups
          → Wrote out 0 (field_bytes 1 (word_bytes (v ∷ g ∷ []))) o1 k → Wrote o1 7 (clauses_bytes b.clauses) o2 m → Put (Ok m) o2
      put_written o1 k o2 m v g ev eg p q = told_written _ out (bytes_of b) o2 m (on ∙ unless_none _ 0 _ fits) put_room (whole_wrote b out o1 k o2 m v g ev eg p q)
