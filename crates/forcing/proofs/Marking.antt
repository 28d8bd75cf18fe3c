-- Levels that become marks.
--   mark_next, mark_all       the first i: one more, all of them
--   settling_marks            levels that are not too low, as marks of the choice that is kept
--   kept_apart                what is kept is apart from a pool without groups
-- Assumes nothing.
use Prim.Native.Nat.{ℕ, zero, suc, ◌+◌, ◌<◌}
use mathlib.Core.Path.{◌≡◌, refl, sym, ap, ◌∙◌, subst}
use mathlib.Core.List.{List, [], ◌∷◌, ◌++◌, append-nil}
use mathlib.Core.Bool.{cond}
use native.Mathlib.Omega.{arith}
use native.Mathlib.Numerals.{add-one}
use lib.ListN.{length, get_or, take, drop, set}
use lib.Seq.{take-length, drop-length}
use lib.Dec.{leb}
use Rattle.meaning.specs.Book.{Book}
use Rattle.meaning.specs.Choice.{Apart}
use Rattle.meaning.specs.Marks.{Partly}
use Rattle.meaning.proofs.Choices.{digit_lt, digit_none}
use Rattle.levels.specs.Levels.{up_to, marks_at, Settling}
use Rattle.levels.proofs.Thresholds.{length_marks}

mark_suc : (t i : ℕ) (f : List ℕ) → i < length f → set (take i (marks_at t f) ++ drop i f) i (cond (leb (get_or (take i (marks_at t f) ++ drop i f) i 0) t) 1 0) ≡ take (suc i) (marks_at t f) ++ drop (suc i) f
unfolding marks_at
mark_suc t i [] h = absurd (omega arith)
mark_suc t zero (l ∷ f) h = refl
mark_suc t (suc i) (l ∷ f) h = ap (λ (z : List ℕ). cond (leb l t) 1 0 ∷ z) (mark_suc t i f (omega arith))

pub mark_next : (t i : ℕ) (f w : List ℕ) (y : ℕ) → i < length f → w ≡ take i (marks_at t f) ++ drop i f → y ≡ cond (leb (get_or w i 0) t) 1 0
    → set w i y ≡ take (i + 1) (marks_at t f) ++ drop (i + 1) f
mark_next t i f w y h e q =
    ap (set w i) q ∙ ap (λ (z : List ℕ). set z i (cond (leb (get_or z i 0) t) 1 0)) e ∙ mark_suc t i f h ∙ ap (λ (k : ℕ). take k (marks_at t f) ++ drop k f) (sym (add-one i))

pub mark_all : (t i : ℕ) (f : List ℕ) → i ≡ length f → take i (marks_at t f) ++ drop i f ≡ marks_at t f
mark_all t i f e =
    ap (λ (k : ℕ). take k (marks_at t f) ++ drop k f) e ∙ ap (λ (z : List ℕ). take (length f) (marks_at t f) ++ z) (drop-length f) ∙ append-nil (take (length f) (marks_at t f))
    ∙ ap (λ (k : ℕ). take k (marks_at t f)) (sym (length_marks t f)) ∙ take-length (marks_at t f)

pub settling_marks : (b : Book) (x : ℕ) (f g : List ℕ) → Settling b x 0 f → g ≡ marks_at 0 f → Partly b x g
settling_marks b x f g S e =
    let own : up_to x 0 0 ≡ x = omega arith in
    subst (λ (y : ℕ). Partly b y g) own (subst (Partly b (up_to x 0 0)) (sym e) (S 0 (omega arith)))

pub kept_apart : (x : ℕ) → Apart x 0
kept_apart x g = omega (arith, digit_none g, digit_lt x g)
