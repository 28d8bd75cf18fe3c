-- What the steps of the code find, as equations.
--   tail l n           what follows the place n
--   minus_by           a minus and what follows it as a literal, by the number that this spells
--   empty_by           no byte is no literal
--   plain_by           the same of a token without a minus
--   minus_first        a token that begins with a minus
--   group_short, group_open, group_close, group_inner   a group's token, by its bytes
--   by_count           what is made of the first number of a line and what follows it
--   groups_by          the last of the three numbers of a `p` line
--   clauses_by         the last two
--   counts_by          all three
--   heading_by         what follows `p`, by the next token
--   rest_after         the tokens of what follows a place
--   comment_first      a comment begins with c
--   start_comment, start_blank      a comment, and a line with no token, is skipped
--   skipped_blank      a line that is skipped, and no comment, has no token
-- Assumes nothing.
use Prim.Native.Nat.{ℕ, zero, suc, ◌-◌, ◌<◌}
use mathlib.Core.Path.{◌≡◌, refl, sym, ap, ◌∙◌}
use mathlib.Core.List.{List, [], ◌∷◌}
use mathlib.Core.Bool.{Bool, true, false, not, ◌&&◌, cond, and-false}
use native.Mathlib.Omega.{arith}
use lib.ListN.{length, get_or, take, drop}
use lib.Seq.{drop-cons}
use lib.Dec.{ltb, eqb, eqb-suc-zero}
use borrow.Author.Tests.{lt-ltb, eq-eqb, ne_eqb, eqb-true, eqb-false}
use Rattle.std.specs.Cmp.Lexicographic.{pointwise}
use Rattle.std.specs.Prelude.{Option, None, Some}
use Rattle.std.specs.Option.{option_map, option_and_then, option_map_or}
use Rattle.field.proofs.Parts.{part_end}
use Rattle.text.specs.Lines.{minus_sign, open_brace, close_brace, letter_c, p_word, gcnf_word, tokens, same, is_digit, all_digits, digits, value, is_minus, is_zero, is_group}
use Rattle.text.specs.Forms.{heading, formless, none, counts_line, heading_line, is_comment}
use Rattle.line.specs.Tokens.{next_of, cap, spelt}
use Rattle.line.specs.Starts.{token_in, group_in, literal_from, next_count, by_number, groups_form, clauses_form, heading_form, start_from, start_of}
use Rattle.line.specs.declared.Token.{Token}
use Rattle.line.specs.declared.Literal.{Literal}
use Rattle.line.specs.declared.Literal.TheVariants as LiteralV
use Rattle.line.specs.declared.Heading.{Heading}
use Rattle.line.specs.declared.Start.TheVariants as StartV
use Rattle.line.proofs.Tokens.{next_none, next_token}

abbrev pub tail : List ℕ → ℕ → List ℕ
tail l n = take (length l - n) (drop n l)

capped : (m : ℕ) → eqb (cap m) 0 ≡ eqb m 0
capped zero = refl
capped (suc m) = let z : cap (suc m) ≡ 0 → ⊥ = λ q. omega arith in ne_eqb (cap (suc m)) 0 z ∙ sym (eqb-suc-zero m)

some_zero : (m : ℕ) → ltb 0 m ≡ not (eqb m 0)
some_zero zero = refl
some_zero (suc m) = rw (lt-ltb 0 (suc m) (omega arith), eqb-suc-zero m)

-- the literal that a number makes, or another where it is 0
abbrev pub by_zero : Option Literal → (ℕ → Literal) → ℕ → Option Literal
by_zero a f n = cond (eqb n 0) a (Some (f n))

module _ (ds : List ℕ) where
  minus_digits : digits (minus_sign ∷ ds) ≡ false
  unfolding digits all_digits is_digit
  minus_digits = rw (lt-ltb 0 (suc (length ds)) (omega arith))

  pub minus_by : literal_from (minus_sign ∷ ds) ≡ option_and_then (by_zero None LiteralV.Body) (spelt ds)
  unfolding literal_from is_minus is_zero spelt
  minus_by = rw (minus_digits, some_zero (value ds)) (go (digits ds) (value ds))
    where
      go : (d : Bool) (m : ℕ) → cond (d && not (eqb m 0)) (Some (LiteralV.Body (cap m))) None ≡ option_and_then (by_zero None LiteralV.Body) (cond d (Some (cap m)) None)
      go false m = refl
      go true m = rw (capped m) (by (eqb m 0))
        where
          by : (b : Bool) → cond (not b) (Some (LiteralV.Body (cap m))) None ≡ cond b None (Some (LiteralV.Body (cap m)))
          by true = refl
          by false = refl

pub empty_by : (w : List ℕ) → length w ≡ 0 → literal_from w ≡ None
unfolding literal_from is_minus is_zero digits
empty_by [] e = refl
empty_by (a ∷ w) e = absurd (omega arith)

pub plain_by : (w : List ℕ) → (get_or w 0 0 ≡ minus_sign → ⊥) → literal_from w ≡ option_and_then (by_zero (Some LiteralV.End) LiteralV.Head) (spelt w)
unfolding literal_from is_minus is_zero spelt
plain_by w first = rw (ne_eqb (get_or w 0 0) minus_sign first) (go (digits w) (value w))
  where
    go : (d : Bool) (m : ℕ) → cond (d && eqb m 0) (Some LiteralV.End) (cond d (Some (LiteralV.Head (cap m))) None)
        ≡ option_and_then (by_zero (Some LiteralV.End) LiteralV.Head) (cond d (Some (cap m)) None)
    go false m = refl
    go true m = rw (capped m)

module _ (w : List ℕ) where
  pub group_short : length w < 3 → group_in w ≡ None
  unfolding group_in is_group digits
  group_short h =
      let z : length w - 2 ≡ 0 = omega arith in
      rw (z, and-false (eqb (get_or w (length w - 1) 0) close_brace), and-false (eqb (get_or w 0 0) open_brace))

  pub group_open : (get_or w 0 0 ≡ open_brace → ⊥) → group_in w ≡ None
  unfolding group_in is_group
  group_open n = rw (ne_eqb (get_or w 0 0) open_brace n)

  pub group_close : (get_or w (length w - 1) 0 ≡ close_brace → ⊥) → group_in w ≡ None
  unfolding group_in is_group
  group_close n = rw (ne_eqb (get_or w (length w - 1) 0) close_brace n, and-false (eqb (get_or w 0 0) open_brace))

  pub group_inner : get_or w 0 0 ≡ open_brace → get_or w (length w - 1) 0 ≡ close_brace → group_in w ≡ spelt (take (length w - 1 - 1) (drop 1 w))
  unfolding group_in is_group spelt
  group_inner e f =
      let d : length w - 1 - 1 ≡ length w - 2 = omega arith in
      rw (eq-eqb (get_or w 0 0) open_brace e, eq-eqb (get_or w (length w - 1) 0) close_brace f, d)

pub minus_first : (w : List ℕ) → 0 < length w → get_or w 0 0 ≡ minus_sign → literal_from (minus_sign ∷ drop 1 w) ≡ literal_from w
minus_first w h e = ap literal_from (rw (← e) (sym (drop-cons w 0 0 h)))

-- what the next number says of the tokens
module _ (l : List ℕ) where
  abbrev then_tail : (ℕ → List (List ℕ) → Option Heading) → ℕ × ℕ → Option Heading
  then_tail f p = f p.0 (tokens (tail l p.1))

  by_count : (f : ℕ → List (List ℕ) → Option Heading) → by_number (tokens l) f ≡ option_and_then (then_tail f) (next_count l)
  unfolding next_count by_number spelt
  by_count f = go (next_of l) refl
    where
      by : (t : Token) (b : Bool) → cond b (f (cap (value (token_in l t))) (tokens (drop t.end l))) None
          ≡ option_and_then (then_tail f) (option_map (λ n. (n, t.end)) (cond b (Some (cap (value (token_in l t)))) None))
      by t true = rw (part_end l t.end)
      by t false = refl

      go : (x : Option Token) → next_of l ≡ x → by_number (tokens l) f
          ≡ option_and_then (then_tail f) (option_and_then (λ t. option_map (λ n. (n, t.end)) (spelt (token_in l t))) x)
      go None q = rw (next_none l q)
      go (Some t) q = rw (next_token l t q).here (by t (digits (token_in l t)))

  pub heading_by : heading_form (heading_line (tokens l))
      ≡ option_and_then (λ t. cond (same (token_in l t) gcnf_word) (heading_form (counts_line (tokens (tail l t.end)))) None) (next_of l)
  unfolding heading_form heading_line
  heading_by = go (next_of l) refl
    where
      by : (t : Token) (b : Bool) → heading_form (cond b (counts_line (tokens (drop t.end l))) formless) ≡ cond b (heading_form (counts_line (tokens (tail l t.end)))) None
      by t true = rw (part_end l t.end)
      by t false = refl

      go : (x : Option Token) → next_of l ≡ x → heading_form (heading_line (tokens l))
          ≡ option_and_then (λ t. cond (same (token_in l t) gcnf_word) (heading_form (counts_line (tokens (tail l t.end)))) None) x
      go None q = rw (next_none l q)
      go (Some t) q = rw (next_token l t q).here (by t (same (token_in l t) gcnf_word))

either : (b : Bool) → ◌≡◌ {A = Option Heading} (cond b None None) None
either true = refl
either false = refl

-- the three numbers
abbrev three : List ℕ → List ℕ → List ℕ → Heading
three a b c = record { variables = cap (value a); clauses = cap (value b); groups = cap (value c) }

counts_form : (ts : List (List ℕ)) → heading_form (counts_line ts) ≡ by_number ts clauses_form
unfolding heading_form counts_line by_number groups_form clauses_form none
counts_form [] = refl
counts_form (a ∷ []) = rw (either (digits a))
counts_form (a ∷ (b ∷ [])) = rw (either (digits b), either (digits a))
counts_form (a ∷ (b ∷ (c ∷ []))) = go (digits a) (digits b) (digits c)
  where
    go : (p q r : Bool) → heading_form (cond (p && (q && r)) (heading (value a) (value b) (value c)) formless)
        ≡ cond p (cond q (cond r (Some (three a b c)) None) None) None
    go false q r = refl
    go true false r = refl
    go true true false = refl
    go true true true = refl
counts_form (a ∷ (b ∷ (c ∷ (d ∷ ts)))) = rw (either (digits c), either (digits b), either (digits a))

-- a `p` line, number by number
module _ (l : List ℕ) where
  pub groups_by : (v n : ℕ) → groups_form v n (tokens l)
      ≡ option_and_then (λ p. cond (none (tokens (tail l p.1))) (Some (record { variables = v; clauses = n; groups = p.0 })) None) (next_count l)
  unfolding groups_form
  groups_by v n = by_count l _

  pub clauses_by : (v : ℕ) → clauses_form v (tokens l) ≡ option_and_then (λ p. groups_form v p.0 (tokens (tail l p.1))) (next_count l)
  unfolding clauses_form
  clauses_by v = by_count l _

  pub counts_by : heading_form (counts_line (tokens l)) ≡ option_and_then (λ p. clauses_form p.0 (tokens (tail l p.1))) (next_count l)
  counts_by = counts_form (tokens l) ∙ by_count l _

pub rest_after : (l : List ℕ) (n : ℕ) → tokens (tail l n) ≡ tokens (drop n l)
rest_after l n = rw (part_end l n)

pub comment_first : (l : List ℕ) → pointwise eqb (letter_c ∷ []) (take 1 l) ≡ is_comment l
unfolding is_comment
comment_first [] = refl
comment_first (a ∷ l) = go (eqb a letter_c) refl
  where
    go : (b : Bool) → eqb a letter_c ≡ b → (eqb letter_c a && true) ≡ b
    go true e = rw (eq-eqb letter_c a (sym (eqb-true a letter_c e)))
    go false e = rw (ne_eqb letter_c a (λ q. eqb-false a letter_c e (sym q)))

pub start_comment : (l : List ℕ) → is_comment l ≡ true → start_of l ≡ Some StartV.Skipped
unfolding start_of
start_comment l e = simp e refl

pub start_blank : (l : List ℕ) → None ≡ next_of l → start_of l ≡ Some StartV.Skipped
unfolding start_of
start_blank l e = go (is_comment l)
  where
    go : (t : Bool) → cond t (Some StartV.Skipped) (option_map_or (λ t. start_from (token_in l t) t.end l) (next_of l) (Some StartV.Skipped)) ≡ Some StartV.Skipped
    go true = refl
    go false = ap (λ x. option_map_or (λ t. start_from (token_in l t) t.end l) x (Some StartV.Skipped)) (sym e)

-- a line that begins with a token is not skipped
token_starts : (l w : List ℕ) (n : ℕ) → start_from w n l ≡ Some StartV.Skipped → ⊥
unfolding start_from
token_starts l w n e = go (same w p_word) (heading_form (heading_line (tokens (drop n l)))) (group_in w) e
  where
    go : (b : Bool) (h : Option Heading) (g : Option ℕ)
        → cond b (option_map StartV.Heading h) (option_map (λ k. StartV.Clause k n) g) ≡ Some StartV.Skipped → ⊥
    go true None g q = cc
    go true (Some h) g q = cc
    go false h None q = cc
    go false h (Some k) q = cc

pub skipped_blank : (l : List ℕ) → is_comment l ≡ false → start_of l ≡ Some StartV.Skipped → next_of l ≡ None
unfolding start_of
skipped_blank l c e = go (next_of l) refl (sym (ap (λ b. cond b (Some StartV.Skipped) (option_map_or (λ t. start_from (token_in l t) t.end l) (next_of l) (Some StartV.Skipped))) c) ∙ e)
  where
    go : (x : Option Token) → next_of l ≡ x → option_map_or (λ t. start_from (token_in l t) t.end l) x (Some StartV.Skipped) ≡ Some StartV.Skipped → next_of l ≡ None
    go None q k = q
    go (Some t) q k = absurd (token_starts l (token_in l t) t.end k)
