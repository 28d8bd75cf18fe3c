-- What reading to plain form answers and leaves, by what the bytes are.
--   plain_length                                how many numbers a book is
--   read_refused, read_short, read_written      the three ways
--   Read, read_one                              the contract of `read`; it determines its answer and the space
-- Assumes nothing.
use Prim.Native.Nat.{ℕ, ◌+◌, ◌≤◌, ◌<◌}
use mathlib.Core.Path.{◌≡◌, ◌∙◌}
use mathlib.Core.List.{List, [], ◌∷◌}
use native.Mathlib.Omega.{arith}
use lib.IntN.{ℤ, pos}
use lib.ListN.{length, set}
use Rattle.std.specs.Prelude.{Result, Ok, Err}
use Rattle.answer.specs.Answer.{answered, refused}
use Rattle.answer.specs.Space.{Wrote}
use Rattle.answer.specs.declared.Refusal.{Refusal}
use Rattle.answer.specs.declared.Cause.TheVariants.{SpaceTooSmall}
use Rattle.answer.specs.Refusals.{number_of}
use Rattle.answer.proofs.Answers.{then_by, then_not}
use Rattle.answer.proofs.Spaces.{fitting_in, fitting_out, Told, told_one, told_refused, told_written, wrote_one, wrote_append}
use Rattle.meaning.specs.Book.{Book}
use Rattle.book.specs.Reading.{reading}
use Rattle.plain.specs.Plain.{plain_clauses, plain_of}
use Rattle.reader.specs.Reads.{reads}

-- the contract of `read`
abbrev pub Read : List ℕ → List ℤ → Result ℕ Refusal → List ℤ → Type 0
Read s out r new = Told (reads s (length out)) out r new

pub read_one : (s : List ℕ) (out : List ℤ) (r r' : Result ℕ Refusal) (new new' : List ℤ) → Read s out r new → Read s out r' new' → (r ≡ r') × (new ≡ new')
read_one s out = told_one (reads s (length out)) out

pub plain_length : (b : Book) → length (plain_of b) ≡ 2 + length (plain_clauses b.clauses)
unfolding plain_of
plain_length b = omega arith

module _ (s : List ℕ) (out : List ℤ) where
  pub read_refused : (r : Refusal) → reading s ≡ refused (number_of r.cause) r.place → Read s out (Err r) out
  unfolding reads
  read_refused r e = told_refused (reads s (length out)) out r (then_not _ _ _ _ e)

  module _ (b : Book) (is : reading s ≡ answered b) where
    pub read_short : (r : Refusal) → r.cause ≡ SpaceTooSmall → r.place ≡ 0 → length out < length (plain_of b) → Read s out (Err r) out
    unfolding reads
    read_short r ec ep h = told_refused (reads s (length out)) out r (then_by _ b _ is ∙ fitting_out (length out) (plain_of b) h ∙ simp (ec, ep))

    whole : (l1 l2 l3 : List ℤ) (v g n : ℕ) → v ≡ b.variables → g ≡ b.groups → l1 ≡ set out 0 (pos v) → l2 ≡ set l1 1 (pos g)
        → Wrote l2 2 (plain_clauses b.clauses) l3 n → Wrote out 0 (plain_of b) l3 n
    unfolding plain_of
    whole l1 l2 l3 v g n ev eg e1 e2 w =
        let first : Wrote out 0 (pos b.variables ∷ []) l1 1 = simp (e1, ev) (wrote_one out 0 (pos b.variables)) in
        let second : Wrote l1 1 (pos b.groups ∷ []) l2 2 = simp (e2, eg) (wrote_one l1 1 (pos b.groups)) in
        wrote_append out 0 (pos b.variables ∷ []) l1 1 (pos b.groups ∷ plain_clauses b.clauses) l3 n first
        (wrote_append l1 1 (pos b.groups ∷ []) l2 2 (plain_clauses b.clauses) l3 n second w)

    pub read_written : (l1 l2 l3 : List ℤ) (v g n : ℕ) → length (plain_of b) ≤ length out → v ≡ b.variables → g ≡ b.groups
        → l1 ≡ set out 0 (pos v) → l2 ≡ set l1 1 (pos g) → Wrote l2 2 (plain_clauses b.clauses) l3 n → Read s out (Ok n) l3
    unfolding reads
    read_written l1 l2 l3 v g n h ev eg e1 e2 w =
        told_written (reads s (length out)) out (plain_of b) l3 n (then_by _ b _ is ∙ fitting_in (length out) (plain_of b) h) h (whole l1 l2 l3 v g n ev eg e1 e2 w)
