-- The text of a listing, in bytes: what document 01 shows.
--   numbers ns         some numbers, a blank before each
--   groups_in f g x     the groups of the set x rising, where its lowest bit stands for group g, in so many steps at most
--   groups_of x         the groups of a set, rising
--   member x g          a blank and the number of group g + 1 if the set x has it, and else nothing
--   none_text           a blank and `none`
--   set_text x          `none` for the empty set; else its groups, a blank before each
--   groups_word, explain_word, repair_word, complete_word, stopped_word, refused_word      the words
--   kind_word k         `explain` for kind 1, and else `repair`
--   word_of k           the word of a kind
--   record_line r       `explain` or `repair`, and the set
--   record_lines rs     a line for each record
--   last_word done      `complete` or `stopped`
--   is_complete e       whether a listing ends complete
--   listing_text n rs done    a listing: the header's groups, the records, and complete or stopped with the record count
--   refusal_text n at   a refusal: `refused`, the number, the place
-- Assumes nothing: these are definitions.
use Rattle.std.specs.Prelude.{ℕ, zero, suc, ◌+◌, ◌/◌, ◌%◌, List, [], ◌∷◌, ◌++◌, Bool, true, false, cond, eqb, length}
use Rattle.decimal.specs.Digits.{after, line}
use Rattle.rounds.specs.Records.{Record}
use Rattle.meaning.specs.Choice.{digit}
use Rattle.records.specs.Words.{kind_of, set_of}
use Rattle.records.specs.declared.Kind.{Kind}
use Rattle.records.specs.declared.Kind.TheVariants.{Explanation, Repair}
use Rattle.report.specs.declared.Ending.{Ending}
use Rattle.report.specs.declared.Ending.TheVariants.{Complete, Stopped}

unfoldable pub numbers : List ℕ → List ℕ
numbers [] = []
numbers (n ∷ ns) = after n ++ numbers ns

unfoldable pub groups_in : ℕ → ℕ → ℕ → List ℕ
groups_in zero g x = []
groups_in (suc f) g x = cond (eqb (x % 2) 1) (g ∷ []) [] ++ groups_in f (g + 1) (x / 2)

abbrev pub groups_of : ℕ → List ℕ
groups_of x = groups_in x 1 x

abbrev pub member : ℕ → ℕ → List ℕ
member x g = cond (eqb (digit x g) 1) (after (g + 1)) []

abbrev pub none_text : List ℕ
none_text = 32 ∷ 110 ∷ 111 ∷ 110 ∷ 101 ∷ []

unfoldable pub set_text : ℕ → List ℕ
set_text x = cond (eqb x 0) none_text (numbers (groups_of x))

abbrev pub groups_word : List ℕ
groups_word = 103 ∷ 114 ∷ 111 ∷ 117 ∷ 112 ∷ 115 ∷ []

abbrev pub explain_word : List ℕ
explain_word = 101 ∷ 120 ∷ 112 ∷ 108 ∷ 97 ∷ 105 ∷ 110 ∷ []

abbrev pub repair_word : List ℕ
repair_word = 114 ∷ 101 ∷ 112 ∷ 97 ∷ 105 ∷ 114 ∷ []

abbrev pub complete_word : List ℕ
complete_word = 99 ∷ 111 ∷ 109 ∷ 112 ∷ 108 ∷ 101 ∷ 116 ∷ 101 ∷ []

abbrev pub stopped_word : List ℕ
stopped_word = 115 ∷ 116 ∷ 111 ∷ 112 ∷ 112 ∷ 101 ∷ 100 ∷ []

abbrev pub refused_word : List ℕ
refused_word = 114 ∷ 101 ∷ 102 ∷ 117 ∷ 115 ∷ 101 ∷ 100 ∷ []

unfoldable pub kind_word : ℕ → List ℕ
kind_word k = cond (eqb k 1) explain_word repair_word

abbrev pub word_of : Kind → List ℕ
word_of Explanation = explain_word
word_of Repair = repair_word

unfoldable pub record_line : Record → List ℕ
record_line r = line (kind_word (kind_of r)) (set_text (set_of r))

unfoldable pub record_lines : List Record → List ℕ
record_lines [] = []
record_lines (r ∷ rs) = record_line r ++ record_lines rs

abbrev pub last_word : Bool → List ℕ
last_word done = cond done complete_word stopped_word

abbrev pub is_complete : Ending → Bool
is_complete Complete = true
is_complete Stopped = false

unfoldable pub listing_text : ℕ → List Record → Bool → List ℕ
listing_text n rs done = line groups_word (after n) ++ (record_lines rs ++ line (last_word done) (after (length rs)))

unfoldable pub refusal_text : ℕ → ℕ → List ℕ
refusal_text n at = line refused_word (after n ++ after at)
