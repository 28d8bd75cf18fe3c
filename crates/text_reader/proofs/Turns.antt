-- The first line of a text, as code goes past it.
--   Turn t n next            the first line of t has n bytes, and next is the place after it: `later` are the lines that follow
--   turn                     it is so, where t is not empty
--   after_shorter            so what follows is shorter
-- Assumes nothing.
use Prim.Native.Nat.{ℕ, ◌+◌, ◌≤◌, ◌<◌}
use mathlib.Core.Path.{◌≡◌, refl, sym, ap, ◌∙◌}
use mathlib.Core.Logic.{inl, inr}
use mathlib.Core.List.{List, [], ◌∷◌}
use mathlib.Core.Bool.{Bool, true, false}
use native.Mathlib.Omega.{arith}
use native.Mathlib.Numerals.{add-one}
use lib.ListN.{length, take, drop, drop_of_length-le, length-drop}
use lib.Seq.{length-take-le, take_all}
use lib.Dec.{ltb}
use borrow.Author.Tests.{lt-ltb, le-ltb, ltb-true, ltb-false}
use Rattle.text.specs.Lines.{pieces, ends, lines}
use Rattle.text.proofs.Walks.{Alike}
use Rattle.line.specs.Tokens.{run_of}
use Rattle.line.proofs.Tokens.{run_bound, pieces_last, pieces_run}
use Rattle.text_reader.specs.Steps.{past_of, line_size, after_line}

module _ (t : List ℕ) (n : ℕ) where
  pub past_feed : n < length t → n + 1 ≡ past_of t n
  unfolding past_of
  past_feed h = rw (lt-ltb n (length t) h)

  pub past_last : length t ≤ n → n ≡ past_of t n
  unfolding past_of
  past_last h = rw (le-ltb n (length t) h)

pub record Turn (t : List ℕ) (n next : ℕ) : Type 0 where
  pub later : List (List ℕ)
  pub split : lines t ≡ take n t ∷ later
  pub size : line_size (take n t) later ≡ next
  pub alike : Alike later (lines (drop next t))
  pub some : 0 < next
  pub inside : next ≤ length t
  pub short : n ≤ length t

-- there is always a line
lines_some : (l t : List ℕ) → line_size l (lines t) ≡ length l + 1
unfolding lines line_size
lines_some l t = go (ltb (run_of ends t) (length t)) refl
  where
    go : (b : Bool) → ltb (run_of ends t) (length t) ≡ b → line_size l (pieces ends t) ≡ length l + 1
    go true e = simp (pieces_run ends t (ltb-true (run_of ends t) (length t) e))
    go false e = simp (pieces_last ends t (omega (arith, ltb-false (run_of ends t) (length t) e, run_bound ends t)))

pub turn : (t : List ℕ) (n next : ℕ) → 0 < length t → n ≡ run_of ends t → next ≡ past_of t n → Turn t n next
unfolding lines line_size pieces
turn t n next some is past = go (ltb n (length t)) refl
  where
    go : (b : Bool) → ltb n (length t) ≡ b → Turn t n next
    go true e =
        let h = ltb-true n (length t) e in
        let k : next ≡ n + 1 = past ∙ sym (past_feed t n h) in
        let r : pieces ends t ≡ take n t ∷ pieces ends (drop next t) =
        simp (k, add-one, is) (pieces_run ends t (omega (arith, h, is))) in
        record {
          later = lines (drop next t);
          split = r;
          size = lines_some (take n t) (drop next t) ∙ ap (λ (m : ℕ). m + 1) (length-take-le n t (omega (arith, h))) ∙ sym k;
          alike = inl refl;
          some = omega (arith, k);
          inside = omega (arith, k, h);
          short = omega (arith, h);
        }
    go false e =
        let h = ltb-false n (length t) e in
        let b = run_bound ends t in
        let all : n ≡ length t = omega (arith, h, b, is) in
        let k : next ≡ n = past ∙ sym (past_last t n h) in
        let w : take n t ≡ t = take_all n t (omega (arith, all)) in
        let over : length t ≤ next = omega (arith, k, all) in
        let d : drop next t ≡ [] = drop_of_length-le t over in
        record {
          later = [];
          split = simp w (pieces_last ends t (omega (arith, is, all)));
          size = ap length w ∙ sym (k ∙ all);
          alike = inr (refl, ap lines d);
          some = omega (arith, k, all, some);
          inside = omega (arith, k, all);
          short = omega (arith, all);
        }

pub after_shorter : (t : List ℕ) → 0 < length t → length (after_line t) < length t
after_shorter t some = let u = turn t _ _ some refl refl in omega (arith, u.some, u.inside, length-drop (past_of t (run_of ends t)) t)
