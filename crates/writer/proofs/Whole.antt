-- What writing a plain form to a book answers and leaves, by what the plain form is.
--   Took, took            a plain form is taken, and its numbers are the answer's
--   Ready, ready          so the clauses can be written
--   Write, write_one      the contract of `write`; it determines its answer and the space
-- Assumes nothing.
use Prim.Native.Nat.{ℕ, ◌-◌, ◌≤◌}
use mathlib.Core.Path.{◌≡◌, sym, ap, ◌∙◌}
use mathlib.Core.List.{List}
use native.Mathlib.Omega.{arith}
use lib.IntN.{ℤ}
use lib.ListN.{length, take, drop, length-drop}
use Rattle.std.specs.Prelude.{Result}
use Rattle.answer.specs.Answer.{answered}
use Rattle.answer.specs.declared.Refusal.{Refusal}
use Rattle.answer.proofs.Spaces.{Told, writing_start}
use Rattle.field.proofs.Parts.{part_end}
use Rattle.book.specs.Bytes.{bytes_of}
use Rattle.plain.specs.Plain.{plain_of}
use Rattle.plain.specs.Taking.{taking}
use Rattle.plain.proofs.Back.{taking_back}
use Rattle.writer.specs.Writes.{writes}
use Rattle.writer.specs.Steps.{taken_of, book_from, IsPlain}
use Rattle.writer.specs.declared.Taken.{Taken}
use Rattle.writer.proofs.Copying.{Copying}
use Rattle.writer.proofs.Books.{taken_book, put_one}

pub record Took (s : List ℤ) (t : Taken) : Type 0 where
  pub is : IsPlain s
  pub variables : t.variables ≡ (book_from s).variables
  pub groups : t.groups ≡ (book_from s).groups
  pub size : t.length ≡ length (bytes_of (book_from s))

pub took : (s : List ℤ) (t : Taken) → answered t ≡ taken_of (taking s) → Took s t
unfolding IsPlain book_from
took s t h = let k = taken_book (taking s) t h in record { is = k.0; variables = k.1; groups = k.2; size = k.3 }

pub record Ready (s : List ℤ) (v : ℕ) (out : List ℕ) : Type 0 where
  pub long : 2 ≤ length s
  pub start : Copying v (book_from s).groups (book_from s).clauses (length s) out out (take (length s - 2) (drop 2 s)) 2 7

pub ready : (s : List ℤ) (v : ℕ) (out : List ℕ) → IsPlain s → v ≡ (book_from s).variables → Ready s v out
unfolding IsPlain plain_of
ready s v out is e =
    let b = book_from s in
    let r = taking_back s b is in
    let long : 2 ≤ length s = omega (arith, ap length r.same) in
    let end : take (length s - 2) (drop 2 s) ≡ drop 2 s = part_end s 2 in
    record {
      long = long;
      start = record {
        left = b.clauses;
        same = ap (drop 2) r.same ∙ sym end;
        good = simp e r.good.good;
        variables = omega (arith, r.good.variables);
        groups = omega (arith, r.good.groups);
        place = simp end (omega (arith, length-drop 2 s));
        writing = writing_start _ _ _;
      };
    }

-- the contract of `write`
abbrev pub Write : List ℤ → List ℕ → Result ℕ Refusal → List ℕ → Type 0
Write s out r new = Told (writes s (length out)) out r new

pub write_one : (s : List ℤ) (out : List ℕ) (r r' : Result ℕ Refusal) (new new' : List ℕ) → Write s out r new → Write s out r' new' → (r ≡ r') × (new ≡ new')
unfolding writes
write_one s out r r' new new' p q = put_one (taking s) out r r' new new' p q
