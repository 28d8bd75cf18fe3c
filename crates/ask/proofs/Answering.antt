-- The working space on the way to an answer, and the marks as bytes.
--   forced_front, forced_flags, forced_length      the marks after forcing, as the other functions ask for them
--   goal_is, out_is     the lowest broken goal, and the bytes, by those marks
--   cleared_after       the space, cleared afterwards
--   copy_next, copy_all      one mark more written, and all of them
-- Assumes nothing.
use Prim.Native.Nat.{ℕ, zero, suc, ◌+◌, ◌<◌}
use mathlib.Core.Path.{◌≡◌, refl, sym, ap, ◌∙◌, subst}
use mathlib.Core.List.{List, [], ◌∷◌, ◌++◌}
use native.Mathlib.Omega.{arith}
use native.Mathlib.Numerals.{add-one}
use lib.ListN.{length, get_or, take, drop, set, replicate}
use lib.Seq.{take-length}
use Rattle.std.specs.Prelude.{Option}
use Rattle.answer.specs.Space.{over}
use Rattle.meaning.specs.Forced.{lowest, forced_in, broken_in}
use Rattle.meaning.specs.Marks.{Flags}
use Rattle.meaning.proofs.Forced.{forced_partly}
use Rattle.book.specs.Clauses.{meant}
use Rattle.book.specs.declared.accepted.Book.{Book}
use Rattle.book.proofs.Walk.{found}
use Rattle.marks.specs.Fits.{named}
use Rattle.marks.proofs.Walks.{heads}
use Rattle.forcing.specs.Forcing.{Forcing}
use Rattle.admit.specs.Admits.{zeros}
use Rattle.admit.proofs.Admits.{cleared_again}

-- the marks after forcing
module _ (b : Book) (x : ℕ) (w w' : List ℕ) (F : Forcing b.bytes.now x w w') where
  pub forced_front : take b.variables w' ≡ forced_in (meant b) x
  forced_front = ap (λ (k : ℕ). take k w') b.variables_are ∙ F.marks

  pub forced_flags : Flags (take b.variables w')
  forced_flags = subst Flags (sym forced_front) (forced_partly (meant b) x (heads (meant b) (found b))).flags

  pub forced_length : length (take b.variables w') ≡ b.variables
  forced_length = ap length forced_front ∙ (forced_partly (meant b) x (heads (meant b) (found b))).length ∙ sym b.variables_are

  pub goal_is : (r : Option ℕ) → r ≡ named (lowest x (take b.variables w') 1 (meant b).clauses) → r ≡ named (broken_in (meant b) x)
  unfolding broken_in
  goal_is r e = e ∙ ap (λ (f : List ℕ). named (lowest x f 1 (meant b).clauses)) forced_front

  pub cleared_after : (w₃ : List ℕ) → w₃ ≡ over (replicate 8192 0) w' → w₃ ≡ over zeros w
  cleared_after w₃ e = cleared_again 8192 w w' w₃ refl F.rest e

  pub out_is : (out out' : List ℕ) → out' ≡ over (take b.variables w') out → out' ≡ over (forced_in (meant b) x) out
  out_is out out' e = e ∙ ap (λ (f : List ℕ). over f out) forced_front

-- marks written as bytes
copy_suc : (n : ℕ) (s d : List ℕ) → n < length s → n < length d → set (take n s ++ drop n d) n (get_or s n 0) ≡ take (suc n) s ++ drop (suc n) d
copy_suc n [] d h l = absurd (omega arith)
copy_suc n (y ∷ s) [] h l = absurd (omega arith)
copy_suc zero (y ∷ s) (x ∷ d) h l = refl
copy_suc (suc n) (y ∷ s) (x ∷ d) h l = ap (λ (t : List ℕ). y ∷ t) (copy_suc n s d (omega arith) (omega arith))

pub copy_next : (n : ℕ) (s d : List ℕ) → n < length s → n < length d → set (take n s ++ drop n d) n (get_or s n 0) ≡ take (n + 1) s ++ drop (n + 1) d
copy_next n s d h l = copy_suc n s d h l ∙ ap (λ (k : ℕ). take k s ++ drop k d) (sym (add-one n))

pub copy_all : (n : ℕ) (s d : List ℕ) → n ≡ length s → take n s ++ drop n d ≡ over s d
copy_all n s d e = ap (λ (k : ℕ). take k s ++ drop k d) e ∙ ap (λ (t : List ℕ). t ++ drop (length s) d) (take-length s)
