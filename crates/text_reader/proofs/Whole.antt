-- What turning a text into a book answers and leaves, by what the text is taken as.
--   Took, took               the lines after the `p` line are taken: the book's numbers are the answer's, and its clauses can be written
--   took_room, took_written      how much room they take, and that they are written
--   rest_put                 a text whose `p` line was found is what its clauses make of it
--   FromText, from_text_one  the contract of `from_text`; it determines its answer and the space
-- Assumes nothing.
use Prim.Native.Nat.{ℕ, ◌+◌, ◌-◌}
use mathlib.Core.Path.{◌≡◌, sym, ap, ◌∙◌, subst}
use mathlib.Core.List.{List, [], ◌∷◌}
use native.Mathlib.Omega.{arith}
use lib.ListN.{length, take, drop}
use Rattle.answer.specs.Answer.{Answer, answered, first}
use Rattle.answer.specs.Space.{Wrote}
use Rattle.std.specs.Prelude.{Result, Ok}
use Rattle.answer.specs.declared.Refusal.{Refusal}
use Rattle.answer.proofs.Answers.{then_is, unless_is}
use Rattle.answer.proofs.Spaces.{Told}
use Rattle.field.specs.Words.{word_bytes}
use Rattle.field.specs.Field.{field_bytes}
use Rattle.field.proofs.Parts.{part_end}
use Rattle.meaning.specs.Book.{Clause, Book}
use Rattle.book.specs.Bytes.{clauses_bytes, bytes_of}
use Rattle.book.specs.Reading.{with_clauses}
use Rattle.book.specs.Walk.{taken}
use Rattle.book.proofs.Sizes.{header_length}
use Rattle.text.specs.Lines.{lines}
use Rattle.text.specs.Taking.{clauses_at, count_tests, following, taking_text}
use Rattle.text.proofs.Walks.{clauses_any}
use Rattle.writer.specs.Steps.{taken_of, room_tests}
use Rattle.writer.specs.declared.Taken.{Taken}
use Rattle.writer.proofs.Books.{taken_book, Put, put_one, put_written}
use Rattle.text_reader.specs.FromText.{from_text}
use Rattle.text_reader.specs.Steps.{clauses_in, clauses_of, AreClauses}
use Rattle.text_reader.specs.declared.Opening.{Opening}
use Rattle.text_reader.proofs.Openings.{Opened}

pub record Took (n i : ℕ) (t : List ℕ) (v₀ g₀ : ℕ) (w : Taken) : Type 0 where
  pub book : Book
  pub is : following v₀ n g₀ i (lines t) ≡ answered book
  pub variables : w.variables ≡ book.variables
  pub groups : w.groups ≡ book.groups
  pub length_is : w.length ≡ length (bytes_of book)
  pub same : (w.variables ≡ v₀) × (w.groups ≡ g₀)
  pub are : AreClauses w.variables w.groups t
  pub clauses : clauses_of w.variables w.groups t ≡ book.clauses

pub took : (n i : ℕ) (t : List ℕ) (v₀ g₀ : ℕ) (w : Taken) → answered w ≡ taken_of (following v₀ n g₀ i (lines t)) → Took n i t v₀ g₀ w
unfolding following AreClauses clauses_of clauses_in
took n i t v₀ g₀ w e =
    let v = w.variables in
    let g = w.groups in
    let a = following v₀ n g₀ i (lines t) in
    let k = taken_book a w e in
    let d = then_is (clauses_at v₀ g₀ 2048 (i + 1) (lines t)) _ (taken a) k.0 in
    let u = unless_is (first (count_tests n d.0)) i (with_clauses v₀ g₀ d.0) (taken a) d.2 in
    let b : record { variables = v₀; groups = g₀; clauses = d.0 } ≡ taken a = inside _ _ u.1 in
    let ev : v ≡ v₀ = k.1 ∙ sym (ap (λ (c : Book). c.variables) b) in
    let eg : g ≡ g₀ = k.2 ∙ sym (ap (λ (c : Book). c.groups) b) in
    let z : clauses_at v₀ g₀ 2048 0 (lines t) ≡ answered d.0 = clauses_any v₀ g₀ 2048 (i + 1) 0 (lines t) d.0 d.1 in
    let y : clauses_at v g 2048 0 (lines t) ≡ answered d.0 = cc in
    let x : clauses_in (clauses_at v g 2048 0 (lines t)) ≡ d.0 = ap clauses_in y in
    record {
      book = taken a;
      is = k.0;
      variables = k.1;
      groups = k.2;
      length_is = k.3;
      same = (ev, eg);
      are = y ∙ ap answered (sym x);
      clauses = x ∙ ap (λ (c : Book). c.clauses) b;
    }
  where
    inside : (b c : Book) → answered b ≡ answered c → b ≡ c
    inside b c e = cc

module _ (n i : ℕ) (t : List ℕ) (v₀ g₀ : ℕ) (w : Taken) (k : Took n i t v₀ g₀ w) where
  pub took_room : w.length ≡ 7 + length (clauses_bytes (clauses_of w.variables w.groups t))
  took_room = k.length_is ∙ header_length k.book ∙ ap (λ (cs : List Clause). 7 + length (clauses_bytes cs)) (sym k.clauses)

  pub took_written : (out : List ℕ) → first (room_tests (length out) w.length) ≡ 0 → (o1 : List ℕ) (j : ℕ) (o2 : List ℕ) (c : ℕ)
      → Wrote out 0 (field_bytes 1 (word_bytes (w.variables ∷ w.groups ∷ []))) o1 j → Wrote o1 7 (clauses_bytes (clauses_of w.variables w.groups t)) o2 c
      → Put (following v₀ n g₀ i (lines t)) out (Ok c) o2
  took_written out fits o1 j o2 c p q =
      put_written (following v₀ n g₀ i (lines t)) out k.book k.is w.length k.length_is fits o1 j o2 c w.variables w.groups k.variables k.groups p
      (subst (λ (cs : List Clause). Wrote o1 7 (clauses_bytes cs) o2 c) k.clauses q)

pub rest_put : (t out : List ℕ) (o : Opening) (r : Result ℕ Refusal) (new : List ℕ) → Opened 1 0 t o
    → Put (following o.heading.variables o.heading.clauses o.heading.groups o.line (lines (take (length t - o.next) (drop o.next t)))) out r new → Put (taking_text t) out r new
unfolding taking_text
rest_put t out o r new k p =
    let e : o.next ≡ k.past = omega (arith, k.place) in
    let q : following o.heading.variables o.heading.clauses o.heading.groups o.line (lines (take (length t - o.next) (drop o.next t))) ≡ taking_text t =
    ap (λ (s : List ℕ). following o.heading.variables o.heading.clauses o.heading.groups o.line (lines s)) (part_end t o.next ∙ ap (λ (j : ℕ). drop j t) e) ∙ sym k.takes in
    subst (λ (a : Answer Book). Put a out r new) q p

-- the contract of `from_text`
abbrev pub FromText : List ℕ → List ℕ → Result ℕ Refusal → List ℕ → Type 0
FromText t out r new = Told (from_text t (length out)) out r new

pub from_text_one : (t out : List ℕ) (r r' : Result ℕ Refusal) (new new' : List ℕ) → FromText t out r new → FromText t out r' new' → (r ≡ r') × (new ≡ new')
unfolding from_text
from_text_one t out r r' new new' p q = put_one (taking_text t) out r r' new new' p q
