-- Lines: their parts, their lengths, and one after the other.
--   set_length                              the text of a set is at most 96 bytes where there are 32 groups
--   kind_length                             the word of a kind is at most 7 bytes
--   record_line_lem, record_wrote               the line of a record
--   lines_none, lines_more                  the lines of the first records: one more comes last
--   numbers_one, numbers_two                one number, and two
--   numbers_more, numbers_all               the numbers so far: one more comes last; all, and the line feed
--   listing_wrote                           the header's line, the lines of the records, and the last line
-- Assumes nothing.
use Prim.Native.Nat.{ℕ, zero, suc, ◌+◌, ◌*◌, ◌^◌, ◌≤◌, ◌<◌}
use mathlib.Core.Path.{◌≡◌, refl, sym, ap, ap₂, ◌∙◌}
use mathlib.Core.List.{List, [], ◌∷◌, ◌++◌, append-nil, append_assoc}
use mathlib.Core.Bool.{Bool, true, false, cond}
use native.Mathlib.Omega.{arith}
use native.Mathlib.Numerals.{add-one}
use lib.Dec.{eqb}
use lib.Seq.{get_or-drop, take_all}
use Rattle.std.proofs.lemmas.List.{take_more}
use lib.ListN.{length, get_or, take, drop}
use Rattle.answer.specs.Space.{Wrote}
use Rattle.answer.proofs.Spaces.{wrote_append}
use Rattle.decimal.specs.Digits.{after, line}
use Rattle.decimal.proofs.Putting.{wrote_as, line_wrote}
use Rattle.rounds.specs.Records.{Record}
use Rattle.records.specs.Words.{kind_at, set_at, kind_of, set_of, kind_is, record_from, records_of}
use Rattle.records.specs.declared.Kind.{Kind}
use Rattle.records.specs.declared.Kind.TheVariants.{Explanation, Repair}
use Rattle.records.proofs.Words.{records_none, records_next}
use Rattle.report.specs.Text.{numbers, groups_of, none_text, set_text, groups_word, kind_word, word_of, record_line, record_lines, last_word, listing_text}
use Rattle.report.proofs.Digits.{groups_length}

module _ (x : ℕ) where
  pub set_length : x < 2 ^ 32 → length (set_text x) ≤ 96
  unfolding set_text
  set_length h = go (eqb x 0)
    where
      go : (b : Bool) → length (cond b none_text (numbers (groups_of x))) ≤ 96
      go true = omega arith
      go false = omega (arith, groups_length x 32 1 x h (omega arith))

pub kind_length : (k : Kind) → length (word_of k) ≤ 7
kind_length Explanation = omega arith
kind_length Repair = omega arith

numbers_append : (ms ns : List ℕ) → numbers (ms ++ ns) ≡ numbers ms ++ numbers ns
unfolding numbers
numbers_append [] ns = refl
numbers_append (m ∷ ms) ns = ap (λ (t : List ℕ). after m ++ t) (numbers_append ms ns) ∙ sym (append_assoc (after m) (numbers ms) (numbers ns))

pub numbers_one : (n : ℕ) → numbers (n ∷ []) ≡ after n
unfolding numbers
numbers_one n = append-nil (after n)

pub numbers_two : (m n : ℕ) → numbers (m ∷ n ∷ []) ≡ after m ++ after n
numbers_two m n = numbers_append (m ∷ []) (n ∷ []) ∙ ap₂ (λ (s t : List ℕ). s ++ t) (numbers_one m) (numbers_one n)

pub numbers_more : (ns : List ℕ) (k : ℕ) → k < length ns → numbers (take (k + 1) ns) ≡ numbers (take k ns) ++ after (get_or ns k 0)
numbers_more ns k h = ap numbers (take_more ns k 0 h) ∙ numbers_append (take k ns) (get_or ns k 0 ∷ []) ∙ ap (λ (t : List ℕ). numbers (take k ns) ++ t) (numbers_one (get_or ns k 0))

pub numbers_all : (word ns : List ℕ) (k : ℕ) → length ns ≤ k → (word ++ numbers (take k ns)) ++ (10 ∷ []) ≡ line word (numbers ns)
unfolding line
numbers_all word ns k h = append_assoc word (numbers (take k ns)) (10 ∷ []) ∙ ap (λ (l : List ℕ). word ++ (numbers l ++ (10 ∷ []))) (take_all k ns h)

record_line_lem : (k : Kind) (s : ℕ) → record_line (kind_is k s) ≡ line (word_of k) (set_text s)
unfolding record_line kind_of set_of kind_word
record_line_lem Explanation s = refl
record_line_lem Repair s = refl

pub record_wrote : (k : Kind) (s : ℕ) (l : List ℕ) (i : ℕ) (o : List ℕ) (a : ℕ) (p : List ℕ) (b : ℕ) (q : List ℕ) (c : ℕ)
    → Wrote l i (word_of k) o a → Wrote o a (set_text s) p b → Wrote p b (10 ∷ []) q c → Wrote l i (record_line (kind_is k s)) q c
record_wrote k s l i o a p b q c u v w = wrote_as l i _ _ q c (sym (record_line_lem k s)) (line_wrote l i (word_of k) o a (set_text s) p b q c u v w)

lines_append : (rs ss : List Record) → record_lines (rs ++ ss) ≡ record_lines rs ++ record_lines ss
unfolding record_lines
lines_append [] ss = refl
lines_append (r ∷ rs) ss = ap (λ (t : List ℕ). record_line r ++ t) (lines_append rs ss) ∙ sym (append_assoc (record_line r) (record_lines rs) (record_lines ss))

records_last : (ws : List ℕ) (k : ℕ) → records_of ws (suc k) ≡ records_of ws k ++ (record_from (kind_at ws k) (set_at ws k) ∷ [])
records_last ws zero = records_next ws 0 ∙ ap (λ (rs : List Record). record_from (kind_at ws 0) (set_at ws 0) ∷ rs) (records_none (drop 2 ws)) ∙ ap (λ (rs : List Record). rs ++ (record_from (kind_at ws 0) (set_at ws 0) ∷ [])) (sym (records_none ws))
records_last ws (suc k) =
    let e : 2 + 2 * k ≡ 2 * suc k = omega arith in
    let f : 2 + (2 * k + 1) ≡ 2 * suc k + 1 = omega arith in
    records_next ws (suc k)
    ∙ ap (λ (rs : List Record). record_from (kind_at ws 0) (set_at ws 0) ∷ rs) (records_last (drop 2 ws) k)
    ∙ ap₂ (λ (a b : ℕ). record_from (kind_at ws 0) (set_at ws 0) ∷ (records_of (drop 2 ws) k ++ (record_from a b ∷ []))) (get_or-drop 2 ws (2 * k) 0 ∙ ap (λ (j : ℕ). get_or ws j 0) e) (get_or-drop 2 ws (2 * k + 1) 0 ∙ ap (λ (j : ℕ). get_or ws j 0) f)
    ∙ ap (λ (rs : List Record). rs ++ (record_from (kind_at ws (suc k)) (set_at ws (suc k)) ∷ [])) (sym (records_next ws k))

pub lines_none : (ws : List ℕ) → record_lines (records_of ws 0) ≡ []
unfolding record_lines
lines_none ws = ap record_lines (records_none ws)

pub lines_more : (ws : List ℕ) (k : ℕ) (r : Record) → r ≡ record_from (kind_at ws k) (set_at ws k) → record_lines (records_of ws k) ++ record_line r ≡ record_lines (records_of ws (k + 1))
unfolding record_lines
lines_more ws k r e =
    ap (λ (q : Record). record_lines (records_of ws k) ++ record_line q) e
    ∙ ap (λ (t : List ℕ). record_lines (records_of ws k) ++ t) (sym (append-nil (record_line (record_from (kind_at ws k) (set_at ws k)))))
    ∙ sym (lines_append (records_of ws k) (record_from (kind_at ws k) (set_at ws k) ∷ []))
    ∙ ap record_lines (sym (records_last ws k) ∙ ap (records_of ws) (sym (add-one k)))

length_records : (ws : List ℕ) (c : ℕ) → length (records_of ws c) ≡ c
length_records ws zero = ap length (records_none ws)
length_records ws (suc c) = ap length (records_next ws c) ∙ ap suc (length_records (drop 2 ws) c)

pub listing_wrote : (n : ℕ) (ws : List ℕ) (count : ℕ) (done : Bool) (l : List ℕ) (i : ℕ) (o : List ℕ) (a : ℕ) (p : List ℕ) (b : ℕ) (q : List ℕ) (c : ℕ)
    → Wrote l i (line groups_word (after n)) o a → Wrote o a (record_lines (records_of ws count)) p b → Wrote p b (line (last_word done) (after count)) q c
    → Wrote l i (listing_text n (records_of ws count) done) q c
unfolding listing_text
listing_wrote n ws count done l i o a p b q c u v w =
    wrote_append l i _ o a _ q c u (wrote_append o a _ p b _ q c v (wrote_as p b _ _ q c (ap (λ (k : ℕ). line (last_word done) (after k)) (sym (length_records ws count))) w))
