-- What the next literal of a line, and what a line begins as, say about its tokens.
--   Stands sign l n next     the first token of l is a literal: a number with a sign, n as far as two bytes hold it, and next is the place after it
--   Said l lit               what the next literal of l says
--   literal_said             it is so
--   literal_none, literal_end, literal_head, literal_body      the same, for each
--   Heads, Opens             what is said of a line that is a `p` line; of one that begins with a group
--   Begun l start            what the start of l says
--   start_begun              it is so
--   start_none, start_skipped, start_heading, start_clause      the same, for each
-- Assumes nothing.
use Prim.Native.Nat.{ℕ, zero, suc, ◌≤◌, ◌<◌}
use mathlib.Core.Path.{◌≡◌, refl, subst}
use mathlib.Core.List.{List, [], ◌∷◌}
use mathlib.Core.Bool.{Bool, true, false, ◌&&◌, cond}
use native.Mathlib.Omega.{arith}
use lib.IntN.{ℤ, pos}
use lib.ListN.{length, get_or, drop}
use lib.Dec.{ltb, eqb, eqb-suc-zero}
use borrow.Author.Tests.{lt-ltb, ltb-true}
use Rattle.std.specs.Prelude.{Option, None, Some}
use Rattle.std.specs.Option.{option_map, option_map_or, option_and_then}
use Rattle.answer.proofs.Tests.{and_right}
use Rattle.plain.specs.Plain.{minus}
use Rattle.text.specs.Lines.{minus_sign, p_word, gcnf_word, tokens, same, digits, value, is_minus, is_literal, literal_of, is_zero, inner, is_group}
use Rattle.text.specs.Forms.{skipped, heading, clause, formless, none, literals, closed, clause_line, counts_line, heading_line, form_of, is_comment, line_of}
use Rattle.line.specs.Tokens.{next_of, cap}
use Rattle.line.specs.Starts.{token_in, group_in, literal_from, next_literal, heading_form, start_from, start_of}
use Rattle.line.specs.declared.Token.{Token}
use Rattle.line.specs.declared.Literal.{Literal}
use Rattle.line.specs.declared.Literal.TheVariants as LiteralV
use Rattle.line.specs.declared.Heading.{Heading}
use Rattle.line.specs.declared.Start.{Start}
use Rattle.line.specs.declared.Start.TheVariants as StartV
use Rattle.line.proofs.Tokens.{next_none, next_token}

pub record Stands (sign : ℕ → ℤ) (l : List ℕ) (n next : ℕ) : Type 0 where
  pub number : ℕ
  pub told : n ≡ cap number
  pub some : 1 ≤ number
  pub ahead : 0 < next
  pub inside : next ≤ length l
  pub these : literals (tokens l) ≡ sign number ∷ literals (tokens (drop next l))
  pub ending : closed (tokens l) ≡ closed (tokens (drop next l))

abbrev pub Said : List ℕ → Option (Literal × ℕ) → Type 0
Said l None = (literals (tokens l) ≡ []) × (closed (tokens l) ≡ false)
Said l (Some (LiteralV.End, next)) = (next ≤ length l) × (literals (tokens l) ≡ []) × (closed (tokens l) ≡ none (tokens (drop next l)))
Said l (Some (LiteralV.Head n, next)) = Stands pos l n next
Said l (Some (LiteralV.Body n, next)) = Stands minus l n next

minus_some : (w : List ℕ) → is_minus w ≡ true → 0 < value (drop 1 w)
unfolding is_minus
minus_some w e = ltb-true 0 _ (and_right (digits (drop 1 w)) _ (and_right (eqb (get_or w 0 0) minus_sign) _ e))

-- the first token of a line
module _ (l w : List ℕ) (next : ℕ) (ahead : 0 < next) (inside : next ≤ length l) (here : tokens l ≡ w ∷ tokens (drop next l)) where
  stands : (sign : ℕ → ℤ) (m : ℕ) → 0 < m → is_literal w ≡ true → literal_of w ≡ sign m → Stands sign l (cap m) next
  unfolding literals closed
  stands sign m h e f = record { number = m; told = refl; some = h; ahead = ahead; inside = inside; these = simp (here, e, f); ending = simp (here, e) }

  abbrev placed : Option Literal → Option (Literal × ℕ)
  placed x = option_map (λ y. (y, next)) x

  token_said : Said l (placed (literal_from w))
  unfolding literal_from is_literal is_zero literal_of literals closed
  token_said = go (is_minus w) (digits w) (value w) refl refl refl
    where
      go : (b d : Bool) (m : ℕ) → is_minus w ≡ b → digits w ≡ d → value w ≡ m
          → Said l (placed (cond b (Some (LiteralV.Body (cap (value (drop 1 w))))) (cond (d && eqb m 0) (Some LiteralV.End) (cond d (Some (LiteralV.Head (cap m))) None))))
      go true d m p q r = stands minus (value (drop 1 w)) (minus_some w p) (simp p) (simp p)
      go false true zero p q r = (inside, simp (here, p, q, r), simp (here, p, q, r))
      go false true (suc m) p q r =
          let z : ltb 0 (suc m) ≡ true = lt-ltb 0 (suc m) (omega arith) in
          let y : eqb (suc m) 0 ≡ false = eqb-suc-zero m in
          rw y (stands pos (suc m) (omega arith) (simp (p, q, r, z)) (simp (p, r)))
      go false false m p q r = (simp (here, p, q), simp (here, p, q))

pub literal_said : (l : List ℕ) → Said l (next_literal l)
unfolding next_literal literals closed
literal_said l = go (next_of l) refl
  where
    go : (x : Option Token) → next_of l ≡ x → Said l (option_and_then (λ t. option_map (λ y. (y, t.end)) (literal_from (token_in l t))) x)
    go None e = let n = next_none l e in (simp n, simp n)
    go (Some t) e = let f = next_token l t e in token_said l (token_in l t) t.end (omega (arith, f.order)) f.inside f.here

module _ (l : List ℕ) where
  pub literal_none : next_literal l ≡ None → (literals (tokens l) ≡ []) × (closed (tokens l) ≡ false)
  literal_none e = subst (Said l) e (literal_said l)

  pub literal_end : (next : ℕ) → next_literal l ≡ Some (LiteralV.End, next)
      → (next ≤ length l) × (literals (tokens l) ≡ []) × (closed (tokens l) ≡ none (tokens (drop next l)))
  literal_end next e = subst (Said l) e (literal_said l)

  pub literal_head : (n next : ℕ) → next_literal l ≡ Some (LiteralV.Head n, next) → Stands pos l n next
  literal_head n next e = subst (Said l) e (literal_said l)

  pub literal_body : (n next : ℕ) → next_literal l ≡ Some (LiteralV.Body n, next) → Stands minus l n next
  literal_body n next e = subst (Said l) e (literal_said l)

pub record Heads (l : List ℕ) (h : Heading) : Type 0 where
  pub variables : ℕ
  pub clauses : ℕ
  pub groups : ℕ
  pub told : (h.variables ≡ cap variables) × (h.clauses ≡ cap clauses) × (h.groups ≡ cap groups)
  pub is : line_of l ≡ heading variables clauses groups

pub record Opens (l : List ℕ) (k next : ℕ) : Type 0 where
  pub group : ℕ
  pub told : k ≡ cap group
  pub inside : next ≤ length l
  pub is : line_of l ≡ cond (closed (tokens (drop next l))) (clause group (literals (tokens (drop next l)))) formless

abbrev pub Begun : List ℕ → Option Start → Type 0
Begun l None = line_of l ≡ formless
Begun l (Some StartV.Skipped) = line_of l ≡ skipped
Begun l (Some (StartV.Heading h)) = Heads l h
Begun l (Some (StartV.Clause k next)) = Opens l k next

module _ (l : List ℕ) where
  abbrev Headed : Option Heading → Type 0
  Headed x = Begun l (option_map StartV.Heading x)

  counts_begun : (ts : List (List ℕ)) → line_of l ≡ counts_line ts → Headed (heading_form (counts_line ts))
  unfolding heading_form counts_line
  counts_begun [] e = e
  counts_begun (a ∷ []) e = e
  counts_begun (a ∷ (b ∷ [])) e = e
  counts_begun (a ∷ (b ∷ (c ∷ []))) e = go (digits a && (digits b && digits c)) e
    where
      go : (t : Bool) → line_of l ≡ cond t (heading (value a) (value b) (value c)) formless → Headed (heading_form (cond t (heading (value a) (value b) (value c)) formless))
      go true f = record { variables = value a; clauses = value b; groups = value c; told = (refl, refl, refl); is = f }
      go false f = f
  counts_begun (a ∷ (b ∷ (c ∷ (d ∷ ts)))) e = e

  heading_begun : (ts : List (List ℕ)) → line_of l ≡ heading_line ts → Headed (heading_form (heading_line ts))
  unfolding heading_form heading_line
  heading_begun [] e = e
  heading_begun (w ∷ ts) e = go (same w gcnf_word) e
    where
      go : (t : Bool) → line_of l ≡ cond t (counts_line ts) formless → Headed (heading_form (cond t (counts_line ts) formless))
      go true f = counts_begun ts f
      go false f = f

  -- a line that is no comment, by its first token
  module _ (w : List ℕ) (next : ℕ) (inside : next ≤ length l) (ts : List (List ℕ)) (rest : tokens (drop next l) ≡ ts) where
    abbrev opened : Option ℕ → Option Start
    opened x = option_map (λ k. StartV.Clause k next) x

    clause_begun : line_of l ≡ clause_line w ts → Begun l (opened (group_in w))
    unfolding clause_line group_in
    clause_begun e = go (is_group w) e
      where
        go : (t : Bool) → line_of l ≡ cond (t && closed ts) (clause (value (inner w)) (literals ts)) formless
            → Begun l (opened (cond t (Some (cap (value (inner w)))) None))
        go true f = record { group = value (inner w); told = refl; inside = inside; is = simp rest f }
        go false f = f

    token_begun : line_of l ≡ form_of (w ∷ ts) → Begun l (start_from w next l)
    unfolding form_of start_from
    token_begun e = go (same w p_word) e
      where
        go : (t : Bool) → line_of l ≡ cond t (heading_line ts) (clause_line w ts)
            → Begun l (cond t (option_map StartV.Heading (heading_form (heading_line (tokens (drop next l))))) (opened (group_in w)))
        go true f = heading_begun (tokens (drop next l)) (simp rest f)
        go false f = clause_begun f

  pub start_begun : Begun l (start_of l)
  unfolding start_of line_of form_of
  start_begun = go (is_comment l) (next_of l) refl refl
    where
      go : (t : Bool) (x : Option Token) → is_comment l ≡ t → next_of l ≡ x
          → Begun l (cond t (Some StartV.Skipped) (option_map_or (λ u. start_from (token_in l u) u.end l) x (Some StartV.Skipped)))
      go true x p q = simp p
      go false None p q = simp (p, next_none l q)
      go false (Some u) p q =
          let f = next_token l u q in
          let h = f.here in
          token_begun (token_in l u) u.end f.inside (tokens (drop u.end l)) refl (simp (p, h))

  pub start_none : start_of l ≡ None → line_of l ≡ formless
  start_none e = subst (Begun l) e start_begun

  pub start_skipped : start_of l ≡ Some StartV.Skipped → line_of l ≡ skipped
  start_skipped e = subst (Begun l) e start_begun

  pub start_heading : (h : Heading) → start_of l ≡ Some (StartV.Heading h) → Heads l h
  start_heading h e = subst (Begun l) e start_begun

  pub start_clause : (k next : ℕ) → start_of l ≡ Some (StartV.Clause k next) → Opens l k next
  start_clause k next e = subst (Begun l) e start_begun
