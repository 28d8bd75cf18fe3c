-- Laws of a field that stands first in some bytes.
--   short_none, short_no     the bytes that it takes are there, both ways
--   field_front              a field is its front, and then its value
--   length_field             how many bytes it is
--   field_tag, field_len, field_length, field_fits, field_after      what is found where a field was written, with `rest` after it
-- Assumes nothing.
use Prim.Native.Nat.{ℕ, ◌+◌, ◌/◌, ◌%◌, ◌≤◌}
use mathlib.Core.Path.{◌≡◌, refl, ◌∙◌}
use mathlib.Core.List.{List, [], ◌∷◌, ◌++◌}
use mathlib.Core.Bool.{Bool, true, false, ◌||◌}
use native.Mathlib.Omega.{arith}
use lib.ListN.{length, length-append}
use lib.Seq.{drop-append_seam}
use lib.Dec.{ltb}
use borrow.Author.Tests.{le-ltb, ltb-false}
use Rattle.field.specs.Words.{word_bytes}
use Rattle.field.specs.Field.{tag, len, size, short, after, field_bytes}
use Rattle.field.proofs.Parts.{drop_three}
use Rattle.field.proofs.Words.{two_bytes}

or_false : (a b : Bool) → (a || b) ≡ false → b ≡ false
or_false true b e = let z : ◌≡◌ {A = Bool} true false = e in let y : ◌≡◌ {A = ℕ} 0 1 = cc in absurd (omega arith)
or_false false b e = e

module _ (r : List ℕ) where
  pub short_none : short r ≡ false → size r ≤ length r
  unfolding short
  short_none e = ltb-false (length r) (size r) (or_false (ltb (length r) 3) (ltb (length r) (size r)) e)

  pub short_no : size r ≤ length r → short r ≡ false
  unfolding short
  short_no h = let l : 3 ≤ length r = omega arith in simp (le-ltb (length r) 3 l, le-ltb (length r) (size r) h)

module _ (t : ℕ) (value rest : List ℕ) where
  abbrev r : List ℕ
  r = field_bytes t value ++ rest

  pub field_tag : tag r ≡ t
  unfolding field_bytes
  field_tag = refl

  pub field_len : len r ≡ length value
  unfolding field_bytes
  field_len = two_bytes (length value)

  pub field_length : length r ≡ 3 + length value + length rest
  unfolding field_bytes
  field_length = let h = length-append value rest in omega arith

  pub field_fits : size r ≤ length r
  field_fits = omega (arith, field_len, field_length)

  pub field_after : after r ≡ rest
  unfolding field_bytes
  field_after = simp (field_len) (drop_three (length value) t (length value / 256) (length value % 256) (value ++ rest) ∙ drop-append_seam value rest)

pub length_field : (t : ℕ) (value : List ℕ) → length (field_bytes t value) ≡ 3 + length value
unfolding field_bytes
length_field t value = omega arith

pub field_front : (t : ℕ) (value : List ℕ) → (t ∷ word_bytes (length value ∷ [])) ++ value ≡ field_bytes t value
unfolding field_bytes word_bytes
field_front t value = refl
