-- How a text falls into lines and a line into tokens, and what a token is. Texts, lines and tokens are lists of bytes.
--   line_feed, blank, tab, minus_sign, open_brace, close_brace, letter_c      some bytes
--   p_word, gcnf_word        the bytes of `p` and of `gcnf`
--   joined a ps            the first of some pieces begun with a
--   pieces cuts t          the pieces of t between the bytes at which it is cut: one more than there are such bytes
--   filled ps              the pieces that are not empty
--   ends a                 a is a line feed
--   lines t                the lines of a text; after a last line feed one that is empty
--   separates a            a is a blank or a tab
--   tokens l               the tokens of a line
--   same a b               a and b are the same bytes
--   is_digit a, all_digits w a decimal digit; nothing but digits
--   digits w               decimal digits, at least one
--   value_from n w, value w the number that digits spell, after those that spell n; and from the start
--   is_minus w              a minus and a number that is not 0
--   is_literal w            a number that is not 0, or a minus and such a number
--   literal_of w            that literal
--   is_zero w               the number 0
--   inner w                what is between the first byte and the last
--   is_group w              a number in braces
-- Assumes nothing: these are definitions.
use Rattle.std.specs.Prelude.{ℕ, ◌+◌, ◌-◌, ◌*◌, List, [], ◌∷◌, Bool, true, false, ◌&&◌, ◌||◌, cond, ℤ, pos, length, get_or, take, drop, ltb, leb, eqb}
use Rattle.plain.specs.Plain.{minus}

abbrev pub line_feed : ℕ
line_feed = 10

abbrev pub blank : ℕ
blank = 32

abbrev pub tab : ℕ
tab = 9

abbrev pub minus_sign : ℕ
minus_sign = 45

abbrev pub open_brace : ℕ
open_brace = 123

abbrev pub close_brace : ℕ
close_brace = 125

abbrev pub letter_c : ℕ
letter_c = 99

abbrev pub p_word : List ℕ
p_word = 112 ∷ []

abbrev pub gcnf_word : List ℕ
gcnf_word = 103 ∷ 99 ∷ 110 ∷ 102 ∷ []

unfoldable pub joined : ℕ → List (List ℕ) → List (List ℕ)
joined a [] = (a ∷ []) ∷ []
joined a (p ∷ ps) = (a ∷ p) ∷ ps

unfoldable pub pieces : (ℕ → Bool) → List ℕ → List (List ℕ)
pieces cuts [] = [] ∷ []
pieces cuts (a ∷ t) = cond (cuts a) ([] ∷ pieces cuts t) (joined a (pieces cuts t))

unfoldable pub filled : List (List ℕ) → List (List ℕ)
filled [] = []
filled ([] ∷ ps) = filled ps
filled ((a ∷ p) ∷ ps) = (a ∷ p) ∷ filled ps

unfoldable pub ends : ℕ → Bool
ends a = eqb a line_feed

unfoldable pub lines : List ℕ → List (List ℕ)
lines t = pieces ends t

unfoldable pub separates : ℕ → Bool
separates a = eqb a blank || eqb a tab

unfoldable pub tokens : List ℕ → List (List ℕ)
tokens l = filled (pieces separates l)

unfoldable pub same : List ℕ → List ℕ → Bool
same [] [] = true
same [] (b ∷ s) = false
same (a ∷ r) [] = false
same (a ∷ r) (b ∷ s) = eqb a b && same r s

unfoldable pub is_digit : ℕ → Bool
is_digit a = leb 48 a && leb a 57

unfoldable pub all_digits : List ℕ → Bool
all_digits [] = true
all_digits (a ∷ w) = is_digit a && all_digits w

unfoldable pub digits : List ℕ → Bool
digits w = ltb 0 (length w) && all_digits w

unfoldable pub value_from : ℕ → List ℕ → ℕ
value_from n [] = n
value_from n (a ∷ w) = value_from (10 * n + (a - 48)) w

abbrev pub value : List ℕ → ℕ
value w = value_from 0 w

unfoldable pub is_minus : List ℕ → Bool
is_minus w = eqb (get_or w 0 0) minus_sign && (digits (drop 1 w) && ltb 0 (value (drop 1 w)))

unfoldable pub is_literal : List ℕ → Bool
is_literal w = is_minus w || (digits w && ltb 0 (value w))

unfoldable pub literal_of : List ℕ → ℤ
literal_of w = cond (is_minus w) (minus (value (drop 1 w))) (pos (value w))

unfoldable pub is_zero : List ℕ → Bool
is_zero w = digits w && eqb (value w) 0

abbrev pub inner : List ℕ → List ℕ
inner w = take (length w - 2) (drop 1 w)

unfoldable pub is_group : List ℕ → Bool
is_group w = eqb (get_or w 0 0) open_brace && (eqb (get_or w (length w - 1) 0) close_brace && digits (inner w))
