-- Turning text into books and back, over the calls: whatever their contracts allow.
--   text_back                    an accepted book, turned into text and back, is the same bytes
--   text_book_text_book          text to book to text to book ends with the same book
-- The space may be longer: what follows in it stays. Over the definitions the same is said by `text_taken` and `taken_good` of text.
-- Assumes nothing.
use Prim.Native.Nat.{ℕ, ◌≤◌}
use mathlib.Core.Path.{◌≡◌, sym, ap, ◌∙◌}
use mathlib.Core.List.{List}
use native.Mathlib.Omega.{arith}
use lib.ListN.{length, take}
use Rattle.std.specs.Prelude.{Result, Ok}
use Rattle.answer.specs.Answer.{answered}
use Rattle.answer.specs.Space.{fitting, over}
use Rattle.answer.specs.declared.Refusal.{Refusal}
use Rattle.answer.proofs.Answers.{then_by, then_is}
use Rattle.answer.proofs.Spaces.{fitting_is, told_count, told_all}
use Rattle.field.specs.Words.{Bytes}
use Rattle.meaning.specs.Book.{Book}
use Rattle.book.specs.Bytes.{most_bytes, WellFormed, bytes_of, bytes_in}
use Rattle.book.specs.Reading.{reading}
use Rattle.book.proofs.Written.{reading_written}
use Rattle.book.proofs.Inverse.{reading_is}
use Rattle.book.proofs.Fitting.{bytes_in_lem, bytes_is}
use Rattle.text.specs.Taking.{taking_text}
use Rattle.text.specs.Writing.{text_of}
use Rattle.text.proofs.Good.{taken_good}
use Rattle.text.proofs.Back.{text_taken}
use Rattle.text_reader.specs.FromText.{from_text}
use Rattle.text_reader.proofs.Whole.{FromText}
use Rattle.text_writer.specs.ToText.{to_text}
use Rattle.text_writer.proofs.Texts.{ToText}

-- the text of a well-formed book, and back
module _ (b : Book) (good : WellFormed b) (short : length (bytes_of b) ≤ most_bytes) where
  from_book : (room : ℕ) → length (bytes_of b) ≤ room → from_text (text_of b) room ≡ answered (bytes_of b)
  unfolding from_text
  from_book room fits = then_by _ b _ (text_taken b good) ∙ bytes_in_lem room b short fits

  written_as : (space : List ℕ) (n : ℕ) (text : List ℕ) → ToText (bytes_of b) space (Ok n) text → take n text ≡ text_of b
  unfolding to_text
  written_as space n text p =
      let t = told_count (to_text (bytes_of b) (length space)) space n text p in
      let e : to_text (bytes_of b) (length space) ≡ fitting (length space) (text_of b) = then_by _ b _ (reading_written b good short) in
      t.3 ∙ sym (fitting_is (length space) (text_of b) t.0 (sym e ∙ t.1))

  back : (space : List ℕ) (n : ℕ) (text : List ℕ) → ToText (bytes_of b) space (Ok n) text
      → (room : List ℕ) (r : Result ℕ Refusal) (new : List ℕ) → length (bytes_of b) ≤ length room → FromText (take n text) room r new
      → (r ≡ Ok (length (bytes_of b))) × (new ≡ over (bytes_of b) room)
  back space n text p room r new fits q =
      told_all (from_text (take n text) (length room)) room (bytes_of b) r new
      (ap (λ (l : List ℕ). from_text l (length room)) (written_as space n text p) ∙ from_book (length room) fits) q

pub text_back : (s : List ℕ) → Bytes s → (space : List ℕ) (n : ℕ) (text : List ℕ) → ToText s space (Ok n) text
    → (room : List ℕ) (r : Result ℕ Refusal) (new : List ℕ) → length s ≤ length room → FromText (take n text) room r new
    → (r ≡ Ok (length s)) × (new ≡ over s room)
unfolding to_text
text_back s bytes space n text p room r new fits q =
    let t = told_count (to_text s (length space)) space n text p in
    let e = then_is (reading s) (λ b. fitting (length space) (text_of b)) t.0 t.1 in
    let b = e.0 in
    let k = reading_is s b bytes e.1 in
    let long : length (bytes_of b) ≡ length s = ap length k.bytes in
    let w = back b k.good (omega (arith, long, k.short)) space n text (simp k.bytes p) room r new (omega (arith, long, fits)) q in
    (w.0 ∙ ap Ok long, w.1 ∙ ap (λ (l : List ℕ). over l room) k.bytes)

pub text_book_text_book : (t space : List ℕ) (n : ℕ) (bytes : List ℕ) → FromText t space (Ok n) bytes
    → (space' : List ℕ) (m : ℕ) (text : List ℕ) → ToText (take n bytes) space' (Ok m) text
    → (room : List ℕ) (r : Result ℕ Refusal) (new : List ℕ) → n ≤ length room → FromText (take m text) room r new
    → (r ≡ Ok n) × (new ≡ over (take n bytes) room)
unfolding from_text
text_book_text_book t space n bytes p space' m text q room r new fits u =
    let a = told_count (from_text t (length space)) space n bytes p in
    let e = then_is (taking_text t) (bytes_in (length space)) a.0 a.1 in
    let b = e.0 in
    let k = bytes_is (length space) b a.0 e.2 in
    let s : take n bytes ≡ bytes_of b = a.3 ∙ sym k.0 in
    let long : n ≡ length (bytes_of b) = a.2 ∙ ap length (sym k.0) in
    let w = back b (taken_good t b e.1) k.1 space' m text (simp (sym s) q) room r new (omega (arith, long, fits)) u in
    (w.0 ∙ ap Ok (sym long), w.1 ∙ ap (λ (l : List ℕ). over l room) (sym s))
