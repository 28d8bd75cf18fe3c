-- Writing numbers and lines, part by part.
--   wrote_as                    the same bytes, said otherwise
--   put_digits                  a number, from the place after it back
--   put_blank                   a blank and a number
--   put_copied                  a text in the place of as many bytes
--   line_wrote                  a word, what follows it, and a line feed
--   line_length                 how long a line is
-- Assumes nothing.
use Prim.Native.Nat.{ℕ, ◌+◌, ◌-◌, ◌^◌, ◌≤◌, ◌<◌}
use mathlib.Core.Path.{◌≡◌, refl, sym, ap, ◌∙◌, subst}
use mathlib.Core.List.{List, [], ◌∷◌, ◌++◌, append_assoc}
use native.Mathlib.Omega.{arith}
use lib.ListN.{length, length-append, take, drop, take-append-drop}
use Rattle.std.specs.Fmt.{decimal}
use Rattle.std.proofs.lemmas.Slice.{put_mid-paste}
use borrow.Rule.Slice.PartMut.{put_mid}
use lib.Seq.{sets-eq, take-length}
use Rattle.answer.specs.Space.{Wrote}
use Rattle.answer.proofs.Spaces.{wrote_append}
use Rattle.decimal.specs.Digits.{number, after, line}
use Rattle.decimal.proofs.Digits.{decimal_number}

module _ (l : List ℕ) (i : ℕ) where
  pub wrote_as : (xs ys o : List ℕ) (j : ℕ) → xs ≡ ys → Wrote l i xs o j → Wrote l i ys o j
  wrote_as xs ys o j e w = subst (λ (zs : List ℕ). Wrote l i zs o j) e w

  pub put_copied : (text part : List ℕ) → part ≡ text → i + length text ≤ length l → Wrote l i text (put_mid i (i + length text - i) l part) (i + length text)
  put_copied text part e h =
      record {
        place = refl;
        list = put_mid-paste i _ l part text (length text) e (omega arith) refl ∙ ap (λ (ys : List ℕ). take i l ++ ys ++ drop (i + length text) l) (take-length text) ∙ sym (sets-eq text l i h);
      }

  module _ (n : ℕ) where
    pub put_digits : (o : List ℕ) (r k : ℕ) → n < 2 ^ 64 → k ≡ length (number n) → i + length (number n) ≤ length l
        → r + length (decimal n) ≡ i + k → drop r o ≡ decimal n ++ drop (i + k) l → take r o ≡ take r l → Wrote l i (number n) o (i + k)
    put_digits o r k f e h start written before =
        let d = decimal_number n f in
        let p : r ≡ i = omega (arith, start, e, ap length d) in
        record {
          place = omega (arith, e);
          list =
              sym (take-append-drop r o) ∙ ap (λ (xs : List ℕ). xs ++ drop r o) before ∙ ap (λ (xs : List ℕ). take r l ++ xs) written
              ∙ rw (p, d, e) (sym (append_assoc (take i l) (number n) (drop (i + length (number n)) l)) ∙ sym (sets-eq (number n) l i h));
        }

    pub put_blank : (o : List ℕ) (j : ℕ) (p : List ℕ) (k : ℕ) → Wrote l i (32 ∷ []) o j → Wrote o j (number n) p k → Wrote l i (after n) p k
    put_blank o j p k u w = wrote_append l i (32 ∷ []) o j (number n) p k u w

  pub line_wrote : (word o : List ℕ) (a : ℕ) (rest p : List ℕ) (b : ℕ) (q : List ℕ) (c : ℕ)
      → Wrote l i word o a → Wrote o a rest p b → Wrote p b (10 ∷ []) q c → Wrote l i (line word rest) q c
  unfolding line
  line_wrote word o a rest p b q c u v w = wrote_append l i word o a (rest ++ (10 ∷ [])) q c u (wrote_append o a rest p b (10 ∷ []) q c v w)

pub line_length : (word rest : List ℕ) → length (line word rest) ≡ length word + length rest + 1
unfolding line
line_length word rest = omega (arith, length-append word (rest ++ (10 ∷ [])), length-append rest (10 ∷ []))
