-- How a text falls into pieces: words with a blank before each, and lines with a line feed after each.
--   Free cuts w                no byte of w is one at which a text is cut
--   free_append                of two parts
--   pieces_cut, pieces_end     a part without a cut, then a cut and more; or nothing more
--   tokens_cut, tokens_end     a token, then a separator and more; or nothing more
--   tokens_skip                a separator in front
--   Dark w                     each byte of w is above the blank
--   dark_append                of two parts
--   Word w, Words ts           dark and not empty; each of some is so
--   spaced ts                  a blank before each of some words
--   tokens_spaced              the tokens of a word and more words, blanks between
--   spaced_free                no line feed in such a line
--   lines_end, lines_line      the lines of nothing; a line and more
-- Assumes nothing.
use Prim.Native.Nat.{ℕ, ◌<◌}
use mathlib.Core.Path.{◌≡◌, refl, ap, ◌∙◌}
use mathlib.Core.List.{List, [], ◌∷◌, ◌++◌, append-nil}
use mathlib.Core.Bool.{Bool, true, false}
use native.Mathlib.Omega.{arith}
use lib.ListN.{length}
use borrow.Author.Tests.{ne_eqb}
use Rattle.decimal.specs.Digits.{line}
use Rattle.decimal.proofs.Values.{line_append}
use Rattle.text.specs.Lines.{line_feed, blank, tab, joined, pieces, filled, ends, lines, separates, tokens}

module _ (cuts : ℕ → Bool) where
  abbrev pub Free : List ℕ → Type 0
  Free [] = Unit {0}
  Free (a ∷ w) = (cuts a ≡ false) × Free w

  pub free_append : (u w : List ℕ) → Free u → Free w → Free (u ++ w)
  free_append [] w h k = k
  free_append (a ∷ u) w h k = (h.0, free_append u w h.1 k)

  pub pieces_cut : (w : List ℕ) (a : ℕ) (r : List ℕ) → Free w → cuts a ≡ true → pieces cuts (w ++ (a ∷ r)) ≡ w ∷ pieces cuts r
  unfolding pieces joined
  pieces_cut [] a r h e = simp e
  pieces_cut (b ∷ w) a r h e = simp (h.0, pieces_cut w a r h.1 e)

  pub pieces_end : (w : List ℕ) → Free w → pieces cuts w ≡ w ∷ []
  unfolding pieces joined
  pieces_end [] h = refl
  pieces_end (b ∷ w) h = simp (h.0, pieces_end w h.1)

filled_word : (w : List ℕ) (ps : List (List ℕ)) → 0 < length w → filled (w ∷ ps) ≡ w ∷ filled ps
unfolding filled
filled_word [] ps h = absurd (omega arith)
filled_word (a ∷ w) ps h = refl

pub tokens_cut : (w : List ℕ) (a : ℕ) (r : List ℕ) → Free separates w → 0 < length w → separates a ≡ true → tokens (w ++ (a ∷ r)) ≡ w ∷ tokens r
unfolding tokens
tokens_cut w a r h l e = ap filled (pieces_cut separates w a r h e) ∙ filled_word w (pieces separates r) l

pub tokens_end : (w : List ℕ) → Free separates w → 0 < length w → tokens w ≡ w ∷ []
unfolding tokens filled
tokens_end w h l = ap filled (pieces_end separates w h) ∙ filled_word w [] l

pub tokens_skip : (a : ℕ) (r : List ℕ) → separates a ≡ true → tokens (a ∷ r) ≡ tokens r
unfolding tokens filled
tokens_skip a r e = ap filled (pieces_cut separates [] a r tt e)

-- bytes above the blank: no text is cut at them
abbrev pub Dark : List ℕ → Type 0
Dark [] = Unit {0}
Dark (a ∷ w) = (blank < a) × Dark w

pub dark_append : (u w : List ℕ) → Dark u → Dark w → Dark (u ++ w)
dark_append [] w h k = k
dark_append (a ∷ u) w h k = (h.0, dark_append u w h.1 k)

dark_separates : (w : List ℕ) → Dark w → Free separates w
unfolding separates
dark_separates [] h = tt
dark_separates (a ∷ w) h =
    let l : blank < a = h.0 in
    (simp (ne_eqb a blank (λ e. omega arith), ne_eqb a tab (λ e. omega arith)), dark_separates w h.1)

dark_ends : (w : List ℕ) → Dark w → Free ends w
unfolding ends
dark_ends [] h = tt
dark_ends (a ∷ w) h = let l : blank < a = h.0 in (ne_eqb a line_feed (λ e. omega arith), dark_ends w h.1)

pub record Word (w : List ℕ) : Type 0 where
  pub some : 0 < length w
  pub dark : Dark w

abbrev pub Words : List (List ℕ) → Type 0
Words [] = Unit {0}
Words (w ∷ ts) = Word w × Words ts

unfoldable pub spaced : List (List ℕ) → List ℕ
spaced [] = []
spaced (w ∷ ts) = blank ∷ (w ++ spaced ts)

pub tokens_spaced : (w : List ℕ) (ts : List (List ℕ)) → Word w → Words ts → tokens (w ++ spaced ts) ≡ w ∷ ts
unfolding spaced separates
tokens_spaced w [] h k = ap tokens (append-nil w) ∙ tokens_end w (dark_separates w h.dark) h.some
tokens_spaced w (u ∷ ts) h k =
    tokens_cut w blank (u ++ spaced ts) (dark_separates w h.dark) h.some refl ∙ ap (λ (ps : List (List ℕ)). w ∷ ps) (tokens_spaced u ts k.0 k.1)

pub spaced_free : (w : List ℕ) (ts : List (List ℕ)) → Dark w → Words ts → Free ends (w ++ spaced ts)
unfolding spaced ends
spaced_free w [] h k = free_append ends w [] (dark_ends w h) tt
spaced_free w (u ∷ ts) h k = free_append ends w (blank ∷ (u ++ spaced ts)) (dark_ends w h) (refl, spaced_free u ts k.0.dark k.1)

pub lines_end : lines [] ≡ [] ∷ []
unfolding lines pieces
lines_end = refl

pub lines_line : (w rest r : List ℕ) → Free ends (w ++ rest) → lines (line w rest ++ r) ≡ (w ++ rest) ∷ lines r
unfolding lines ends
lines_line w rest r h = ap (pieces ends) (line_append w rest r) ∙ pieces_cut ends (w ++ rest) line_feed r h refl
