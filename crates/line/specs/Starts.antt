-- What a line begins as, and its next literal.
--   token_in l t            the bytes of a line in the place t
--   group_in w              the number of a group's token, as far as two bytes hold it; nothing for another token
--   literal_from w          what a token is as a literal, if it is one: a head, a body literal, or the 0 that ends a clause
--   next_literal l          the next literal of a line, and the place after it
--   next_count l            the next number of a `p` line, and the place after it
--   by_number ts f          what is made of the first token and the others, where that one is a number
--   groups_form v n ts      the last number of a `p` line, after two others
--   clauses_form v ts       the last two, after another
--   heading_form line       the numbers of a `p` line, as far as two bytes hold them
--   start_from w next l     a line by its first token, where next is the place after it
--   start_of l              what a line begins as, if it has a form: the literals of a clause are still to be looked at, from the place after its group on
-- Assumes nothing: these are definitions.
use Rattle.std.specs.Prelude.{ℕ, ◌-◌, List, [], ◌∷◌, cond, Option, None, Some, take, drop}
use Rattle.std.specs.Option.{option_map, option_and_then, option_map_or}
use Rattle.text.specs.Lines.{p_word, tokens, same, digits, value, is_minus, is_zero, inner, is_group}
use Rattle.text.specs.Forms.{Line, skipped, heading, clause, formless, none, heading_line, is_comment}
use Rattle.line.specs.Tokens.{next_of, cap, spelt}
use Rattle.line.specs.declared.Token.{Token}
use Rattle.line.specs.declared.Literal.{Literal}
use Rattle.line.specs.declared.Literal.TheVariants as LiteralV
use Rattle.line.specs.declared.Heading.{Heading}
use Rattle.line.specs.declared.Start.{Start}
use Rattle.line.specs.declared.Start.TheVariants as StartV

abbrev pub token_in : List ℕ → Token → List ℕ
token_in l t = take (t.end - t.start) (drop t.start l)

unfoldable pub group_in : List ℕ → Option ℕ
group_in w = cond (is_group w) (Some (cap (value (inner w)))) None

unfoldable pub literal_from : List ℕ → Option Literal
literal_from w =
    cond (is_minus w) (Some (LiteralV.Body (cap (value (drop 1 w)))))
    (cond (is_zero w) (Some LiteralV.End)
    (cond (digits w) (Some (LiteralV.Head (cap (value w)))) None))

unfoldable pub next_literal : List ℕ → Option (Literal × ℕ)
next_literal l = option_and_then (λ t. option_map (λ x. (x, t.end)) (literal_from (token_in l t))) (next_of l)

unfoldable pub next_count : List ℕ → Option (ℕ × ℕ)
next_count l = option_and_then (λ t. option_map (λ n. (n, t.end)) (spelt (token_in l t))) (next_of l)

unfoldable pub by_number : List (List ℕ) → (ℕ → List (List ℕ) → Option Heading) → Option Heading
by_number [] f = None
by_number (w ∷ ts) f = cond (digits w) (f (cap (value w)) ts) None

unfoldable pub groups_form : ℕ → ℕ → List (List ℕ) → Option Heading
groups_form v n ts = by_number ts (λ g us. cond (none us) (Some (record { variables = v; clauses = n; groups = g })) None)

unfoldable pub clauses_form : ℕ → List (List ℕ) → Option Heading
clauses_form v ts = by_number ts (groups_form v)

unfoldable pub heading_form : Line → Option Heading
heading_form skipped = None
heading_form (heading v n g) = Some (record { variables = cap v; clauses = cap n; groups = cap g })
heading_form (clause g zs) = None
heading_form formless = None

unfoldable pub start_from : List ℕ → ℕ → List ℕ → Option Start
start_from w next l =
    cond (same w p_word) (option_map StartV.Heading (heading_form (heading_line (tokens (drop next l)))))
    (option_map (λ k. StartV.Clause k next) (group_in w))

unfoldable pub start_of : List ℕ → Option Start
start_of l = cond (is_comment l) (Some StartV.Skipped) (option_map_or (λ t. start_from (token_in l t) t.end l) (next_of l) (Some StartV.Skipped))
