-- Reading and writing undo each other, over the calls: whatever their contracts allow.
--   read_write      an accepted book, read to plain form and written again, is the same bytes
--   write_read      an accepted plain form, written to a book and read again, is the same numbers
-- The space may be longer: what follows in it stays. Over the definitions the same is said by `reading_written` and `reading_is` of book,
-- `taking_given` and `taking_back` of plain.
-- Assumes nothing.
use Prim.Native.Nat.{ℕ, ◌≤◌}
use mathlib.Core.Path.{◌≡◌, sym, ap, ◌∙◌}
use mathlib.Core.List.{List}
use native.Mathlib.Omega.{arith}
use lib.IntN.{ℤ}
use lib.ListN.{length, take}
use Rattle.std.specs.Prelude.{Result, Ok}
use Rattle.answer.specs.Answer.{answered}
use Rattle.answer.specs.Space.{fitting, over}
use Rattle.answer.specs.declared.Refusal.{Refusal}
use Rattle.answer.proofs.Answers.{then_by, then_is}
use Rattle.answer.proofs.Spaces.{fitting_in, fitting_is, told_count, told_all}
use Rattle.field.specs.Words.{Bytes}
use Rattle.meaning.specs.Book.{Book}
use Rattle.book.specs.Bytes.{most_bytes, WellFormed, bytes_of}
use Rattle.book.specs.Reading.{reading}
use Rattle.book.proofs.Written.{reading_written}
use Rattle.book.proofs.Inverse.{reading_is}
use Rattle.book.proofs.Fitting.{bytes_in_lem, bytes_is}
use Rattle.plain.specs.Plain.{plain_of}
use Rattle.plain.specs.Taking.{taking}
use Rattle.plain.proofs.Given.{taking_given}
use Rattle.plain.proofs.Back.{taking_back}
use Rattle.reader.specs.Reads.{reads}
use Rattle.reader.proofs.Reading.{Read}
use Rattle.writer.specs.Writes.{writes}
use Rattle.writer.proofs.Whole.{Write}

-- what a book that is well formed is written as, and what its bytes are read as
writes_book : (b : Book) (room : ℕ) → WellFormed b → length (bytes_of b) ≤ most_bytes → length (bytes_of b) ≤ room → writes (plain_of b) room ≡ answered (bytes_of b)
unfolding writes
writes_book b room k short fits = then_by _ b _ (taking_given b k) ∙ bytes_in_lem room b short fits

reads_book : (b : Book) (room : ℕ) → WellFormed b → length (bytes_of b) ≤ most_bytes → length (plain_of b) ≤ room → reads (bytes_of b) room ≡ answered (plain_of b)
unfolding reads
reads_book b room k short fits = then_by _ b _ (reading_written b k short) ∙ fitting_in room (plain_of b) fits

pub read_write : (s : List ℕ) → Bytes s → (space : List ℤ) (n : ℕ) (plain : List ℤ) → Read s space (Ok n) plain
    → (room : List ℕ) (r : Result ℕ Refusal) (new : List ℕ) → length s ≤ length room → Write (take n plain) room r new
    → (r ≡ Ok (length s)) × (new ≡ over s room)
unfolding reads
read_write s bytes space n plain read room r new fits write =
    let t = told_count (reads s (length space)) space n plain read in
    let e = then_is (reading s) (λ b. fitting (length space) (plain_of b)) t.0 t.1 in
    let b = e.0 in
    let k = reading_is s b bytes e.1 in
    let form : take n plain ≡ plain_of b = t.3 ∙ sym (fitting_is (length space) (plain_of b) t.0 e.2) in
    let long : length (bytes_of b) ≡ length s = ap length k.bytes in
    let w : writes (take n plain) (length room) ≡ answered s =
    ap (λ (l : List ℤ). writes l (length room)) form
    ∙ writes_book b (length room) k.good (omega (arith, k.short)) (omega arith)
    ∙ ap answered k.bytes in
    told_all (writes (take n plain) (length room)) room s r new w write

pub write_read : (xs : List ℤ) (space : List ℕ) (n : ℕ) (bytes : List ℕ) → Write xs space (Ok n) bytes
    → (room : List ℤ) (r : Result ℕ Refusal) (new : List ℤ) → length xs ≤ length room → Read (take n bytes) room r new
    → (r ≡ Ok (length xs)) × (new ≡ over xs room)
unfolding writes
write_read xs space n bytes write room r new fits read =
    let t = told_count (writes xs (length space)) space n bytes write in
    let e = then_is (taking xs) _ t.0 t.1 in
    let b = e.0 in
    let k = taking_back xs b e.1 in
    let u = bytes_is (length space) b t.0 e.2 in
    let form : take n bytes ≡ bytes_of b = t.3 ∙ sym u.0 in
    let long : length (plain_of b) ≡ length xs = ap length k.same in
    let w : reads (take n bytes) (length room) ≡ answered xs =
    ap (λ (l : List ℕ). reads l (length room)) form
    ∙ reads_book b (length room) k.good u.1 (omega arith)
    ∙ ap answered k.same in
    told_all (reads (take n bytes) (length room)) room xs r new w read
