-- The text of Book X's listing, and of a few other lines, computed.
--   x_text         the nine lines that document 01 shows
--   x_listing      they are the text of X's listing
--   none_text_lem      the empty set, and a listing that was stopped
--   refused_text   a refusal
-- Assumes nothing.
use Prim.Native.Nat.{ℕ}
use mathlib.Core.Path.{◌≡◌, refl}
use mathlib.Core.List.{List, [], ◌∷◌}
use mathlib.Core.Bool.{true, false}
use Rattle.decimal.specs.Digits.{digits_in, line}
use Rattle.rounds.specs.Records.{explains, repairs}
use Rattle.records.specs.Words.{kind_of, set_of}
use Rattle.report.specs.Text.{numbers, groups_in, set_text, kind_word, record_line, record_lines, listing_text, refusal_text}

abbrev pub x_text : List ℕ
x_text =
    103 ∷ 114 ∷ 111 ∷ 117 ∷ 112 ∷ 115 ∷ 32 ∷ 53 ∷ 10
    ∷ 101 ∷ 120 ∷ 112 ∷ 108 ∷ 97 ∷ 105 ∷ 110 ∷ 32 ∷ 49 ∷ 32 ∷ 50 ∷ 10
    ∷ 101 ∷ 120 ∷ 112 ∷ 108 ∷ 97 ∷ 105 ∷ 110 ∷ 32 ∷ 51 ∷ 32 ∷ 52 ∷ 10
    ∷ 114 ∷ 101 ∷ 112 ∷ 97 ∷ 105 ∷ 114 ∷ 32 ∷ 49 ∷ 32 ∷ 51 ∷ 10
    ∷ 101 ∷ 120 ∷ 112 ∷ 108 ∷ 97 ∷ 105 ∷ 110 ∷ 32 ∷ 49 ∷ 32 ∷ 52 ∷ 32 ∷ 53 ∷ 10
    ∷ 114 ∷ 101 ∷ 112 ∷ 97 ∷ 105 ∷ 114 ∷ 32 ∷ 49 ∷ 32 ∷ 52 ∷ 10
    ∷ 114 ∷ 101 ∷ 112 ∷ 97 ∷ 105 ∷ 114 ∷ 32 ∷ 50 ∷ 32 ∷ 52 ∷ 10
    ∷ 114 ∷ 101 ∷ 112 ∷ 97 ∷ 105 ∷ 114 ∷ 32 ∷ 50 ∷ 32 ∷ 51 ∷ 32 ∷ 53 ∷ 10
    ∷ 99 ∷ 111 ∷ 109 ∷ 112 ∷ 108 ∷ 101 ∷ 116 ∷ 101 ∷ 32 ∷ 55 ∷ 10
    ∷ []

pub x_listing : listing_text 5 (explains 3 ∷ explains 12 ∷ repairs 5 ∷ explains 25 ∷ repairs 9 ∷ repairs 10 ∷ repairs 22 ∷ []) true ≡ x_text
unfolding digits_in numbers groups_in set_text line kind_word kind_of set_of record_line record_lines listing_text
x_listing = refl

pub none_text_lem : listing_text 0 (repairs 0 ∷ []) false
    ≡ 103 ∷ 114 ∷ 111 ∷ 117 ∷ 112 ∷ 115 ∷ 32 ∷ 48 ∷ 10 ∷ 114 ∷ 101 ∷ 112 ∷ 97 ∷ 105 ∷ 114 ∷ 32 ∷ 110 ∷ 111 ∷ 110 ∷ 101 ∷ 10 ∷ 115 ∷ 116 ∷ 111 ∷ 112 ∷ 112 ∷ 101 ∷ 100 ∷ 32 ∷ 49 ∷ 10 ∷ []
unfolding digits_in numbers groups_in set_text line kind_word kind_of set_of record_line record_lines listing_text
none_text_lem = refl

pub refused_text : refusal_text 10 65535
    ≡ 114 ∷ 101 ∷ 102 ∷ 117 ∷ 115 ∷ 101 ∷ 100 ∷ 32 ∷ 49 ∷ 48 ∷ 32 ∷ 54 ∷ 53 ∷ 53 ∷ 51 ∷ 53 ∷ 10 ∷ []
unfolding digits_in line refusal_text
refused_text = refl
