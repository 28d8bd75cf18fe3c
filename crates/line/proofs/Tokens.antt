-- Laws of where lines and tokens lie.
--   run_bound, gap_bound       a run, and a gap, is no longer than the bytes it is in
--   run_position               a run ends at the first byte that cuts, or where the bytes end
--   pieces_last, pieces_run    the pieces of t by its run: t alone, or the run and the pieces after the byte that cuts it
--   gap_run                    a gap is a run of bytes that separate
--   none_gap                   a line has no token where it is all gap
--   next_all, next_fits, next_some      the first token of a line, as code finds it
--   First l t                  the first token of l is in the place t: it is not empty, it lies in l, and the other tokens follow it
--   next_none, all_next, next_token      the tokens of a line by its first: none, and the line is all gap, or that one
-- Assumes nothing.
use Prim.Native.Nat.{ℕ, suc, ◌+◌, ◌-◌, ◌≤◌, ◌<◌}
use mathlib.Core.Path.{◌≡◌, refl, sym, ap, ◌∙◌, subst}
use mathlib.Core.List.{List, [], ◌∷◌}
use mathlib.Core.Bool.{Bool, true, false, not, cond}
use native.Mathlib.Omega.{arith}
use native.Mathlib.Decide.{dec_lt}
use lib.ListN.{length, get_or, take, drop, drop_of_length-le, length-drop}
use lib.Seq.{length-take-le, take_all, drop-cons, drop-length, drop-drop}
use lib.Dec.{ltb, eqb}
use Rattle.std.specs.Prelude.{Option, None, Some, unwrap_or, position}
use Rattle.std.specs.List.{position_or_len}
use borrow.Author.Tests.{eq-eqb, ne_eqb, eqb-true, eqb-false, ltb-false}
use Rattle.field.proofs.Parts.{part_end}
use Rattle.text.specs.Lines.{joined, pieces, filled, separates, tokens}
use Rattle.text.specs.Forms.{none}
use Rattle.line.specs.Tokens.{run_of, gap_of, next_of}
use Rattle.line.specs.Starts.{token_in}
use Rattle.line.specs.declared.Token.{Token}

module _ (cuts : ℕ → Bool) where
  pub run_bound : (t : List ℕ) → run_of cuts t ≤ length t
  unfolding run_of
  run_bound [] = omega arith
  run_bound (a ∷ t) = go (cuts a) (run_bound t)
    where
      go : (b : Bool) → run_of cuts t ≤ length t → cond b 0 (suc (run_of cuts t)) ≤ suc (length t)
      go true h = omega arith
      go false h = omega arith

  -- the place that a search for the first byte that cuts gives
  place_run : (t : List ℕ) → position_or_len cuts t ≡ run_of cuts t
  unfolding run_of
  place_run [] = refl
  place_run (a ∷ t) = go (cuts a) (place_run t)
    where
      go : (b : Bool) → position_or_len cuts t ≡ run_of cuts t → cond (not b) (1 + position_or_len cuts t) 0 ≡ cond b 0 (suc (run_of cuts t))
      go true e = refl
      go false e = omega (arith, e)

  pub run_position : (t : List ℕ) (o : Option ℕ) → o ≡ position cuts t → unwrap_or o (length t) ≡ run_of cuts t
  run_position t o e = rw (e, place_run t) (go (ltb (run_of cuts t) (length t)) refl)
    where
      go : (b : Bool) → ltb (run_of cuts t) (length t) ≡ b → unwrap_or (cond b (Some (run_of cuts t)) None) (length t) ≡ run_of cuts t
      go true f = refl
      go false f = omega (arith, run_bound t, ltb-false (run_of cuts t) (length t) f)

  pub pieces_last : (t : List ℕ) → run_of cuts t ≡ length t → pieces cuts t ≡ t ∷ []
  unfolding run_of pieces joined
  pieces_last [] e = refl
  pieces_last (a ∷ t) e = go (cuts a) (pieces_last t) e
    where
      go : (b : Bool) → (run_of cuts t ≡ length t → pieces cuts t ≡ t ∷ []) → cond b 0 (suc (run_of cuts t)) ≡ suc (length t)
          → cond b ([] ∷ pieces cuts t) (joined a (pieces cuts t)) ≡ (a ∷ t) ∷ []
      go true again f = absurd (omega arith)
      go false again f = rw (again (omega arith))

  pub pieces_run : (t : List ℕ) → run_of cuts t < length t → pieces cuts t ≡ take (run_of cuts t) t ∷ pieces cuts (drop (suc (run_of cuts t)) t)
  unfolding run_of pieces joined
  pieces_run [] h = absurd (omega arith)
  pieces_run (a ∷ t) h = go (cuts a) (pieces_run t) h
    where
      go : (b : Bool) → (run_of cuts t < length t → pieces cuts t ≡ take (run_of cuts t) t ∷ pieces cuts (drop (suc (run_of cuts t)) t))
          → cond b 0 (suc (run_of cuts t)) < suc (length t)
          → cond b ([] ∷ pieces cuts t) (joined a (pieces cuts t)) ≡ take (cond b 0 (suc (run_of cuts t))) (a ∷ t) ∷ pieces cuts (drop (suc (cond b 0 (suc (run_of cuts t)))) (a ∷ t))
      go true again f = refl
      go false again f = rw (again (omega arith))

  -- the byte after a run cuts
  run_stop : (t : List ℕ) → run_of cuts t < length t → cuts (get_or t (run_of cuts t) 0) ≡ true
  unfolding run_of
  run_stop [] h = absurd (omega arith)
  run_stop (a ∷ t) h = go (cuts a) refl (run_stop t) h
    where
      go : (b : Bool) → cuts a ≡ b → (run_of cuts t < length t → cuts (get_or t (run_of cuts t) 0) ≡ true)
          → cond b 0 (suc (run_of cuts t)) < suc (length t) → cuts (get_or (a ∷ t) (cond b 0 (suc (run_of cuts t))) 0) ≡ true
      go true e again f = e
      go false e again f = again (omega arith)

pub gap_run : (l : List ℕ) → gap_of l ≡ run_of (λ a. not (separates a)) l
unfolding gap_of run_of
gap_run [] = refl
gap_run (a ∷ l) = go (separates a) (gap_run l)
  where
    go : (b : Bool) → gap_of l ≡ run_of (λ a. not (separates a)) l → cond b (suc (gap_of l)) 0 ≡ cond (not b) 0 (suc (run_of (λ a. not (separates a)) l))
    go true e = ap suc e
    go false e = refl

pub gap_bound : (l : List ℕ) → gap_of l ≤ length l
gap_bound l = omega (arith, gap_run l, run_bound (λ a. not (separates a)) l)

-- a byte that separates, in front
tokens_skip : (a : ℕ) (l : List ℕ) → separates a ≡ true → tokens (a ∷ l) ≡ tokens l
unfolding tokens pieces filled
tokens_skip a l e = rw e

tokens_gap : (l : List ℕ) → tokens l ≡ tokens (drop (gap_of l) l)
unfolding gap_of
tokens_gap [] = refl
tokens_gap (a ∷ l) = go (separates a) refl (tokens_gap l)
  where
    go : (b : Bool) → separates a ≡ b → tokens l ≡ tokens (drop (gap_of l) l) → tokens (a ∷ l) ≡ tokens (drop (cond b (suc (gap_of l)) 0) (a ∷ l))
    go true e again = tokens_skip a l e ∙ again
    go false e again = refl

-- what follows the gap is a token's first byte
gap_stop : (l : List ℕ) → gap_of l < length l → 0 < run_of separates (drop (gap_of l) l)
unfolding gap_of run_of
gap_stop [] h = absurd (omega arith)
gap_stop (a ∷ l) h = go (separates a) refl (gap_stop l) h
  where
    go : (b : Bool) → separates a ≡ b → (gap_of l < length l → 0 < run_of separates (drop (gap_of l) l))
        → cond b (suc (gap_of l)) 0 < suc (length l) → 0 < run_of separates (drop (cond b (suc (gap_of l)) 0) (a ∷ l))
    go true e again f = again (omega arith)
    go false e again f = rw e (omega arith)

tokens_nil : tokens [] ≡ []
unfolding tokens pieces filled
tokens_nil = refl

filled_more : (p : List ℕ) (ps : List (List ℕ)) → 0 < length p → filled (p ∷ ps) ≡ p ∷ filled ps
unfolding filled
filled_more [] ps h = absurd (omega arith)
filled_more (a ∷ p) ps h = refl

-- a line that begins with a token: that one, and the tokens after it
module _ (t : List ℕ) where
  abbrev r : ℕ
  r = run_of separates t

  tokens_last : 0 < r → length t ≤ r → tokens t ≡ take r t ∷ tokens (drop r t)
  unfolding tokens filled pieces
  tokens_last h l =
      let e : r ≡ length t = omega (arith, run_bound separates t) in
      let g : filled (t ∷ []) ≡ t ∷ [] = filled_more t [] (omega arith) in
      rw (pieces_last separates t e, take_all r t l, drop_of_length-le t l) g

  tokens_run : 0 < r → r < length t → tokens t ≡ take r t ∷ tokens (drop r t)
  unfolding tokens
  tokens_run h l =
      let s : tokens (drop r t) ≡ tokens (drop (suc r) t) = rw (drop-cons t r 0 l) (tokens_skip (get_or t r 0) (drop (suc r) t) (run_stop separates t l)) in
      rw (pieces_run separates t l) (filled_more (take r t) _ (omega (arith, length-take-le r t (omega arith))) ∙ ap (λ (ts : List (List ℕ)). take r t ∷ ts) (sym s))

  tokens_first : 0 < r → tokens t ≡ take r t ∷ tokens (drop r t)
  tokens_first h = go (dec_lt r (length t))
    where
      go : Dec (r < length t) → tokens t ≡ take r t ∷ tokens (drop r t)
      go (yes l) = tokens_run h l
      go (no l) = tokens_last h (omega arith)

module _ (l : List ℕ) where
  all_gap : gap_of l ≡ length l → tokens l ≡ []
  all_gap e = tokens_gap l ∙ rw (ap (λ (n : ℕ). drop n l) e, drop-length l) tokens_nil

  abbrev end : ℕ
  end = gap_of l + run_of separates (drop (gap_of l) l)

  after_gap : (gap_of l ≡ length l → ⊥) → (gap_of l < end) × (end ≤ length l) × (tokens l ≡ take (end - gap_of l) (drop (gap_of l) l) ∷ tokens (drop end l))
  after_gap n =
      let u = drop (gap_of l) l in
      let g : gap_of l < length l = omega (arith, gap_bound l) in
      let s : 0 < run_of separates u = gap_stop l g in
      let d : end - gap_of l ≡ run_of separates u = omega arith in (
        omega arith,
        omega (arith, run_bound separates u, length-drop (gap_of l) l),
        tokens_gap l ∙ tokens_first u s ∙ simp (d, drop-drop) refl,
      )

  pub next_all : (s : ℕ) → s ≡ gap_of l → s ≡ length l → None ≡ next_of l
  unfolding next_of
  next_all s g e = rw (eq-eqb (gap_of l) (length l) (sym g ∙ e))

  -- the token that a call looks for in the part after the gap
  module _ (s r : ℕ) (g : s ≡ gap_of l) (n : s ≡ length l → ⊥) (e : r ≡ run_of separates (take (length l - s) (drop s l))) where
    is_end : s + r ≡ end
    is_end = rw (e, part_end l s, g)

    pub next_fits : (s < s + r) × (s + r ≤ length l)
    next_fits = let a = after_gap (λ q. n (g ∙ q)) in (omega (arith, is_end, a.0), omega (arith, is_end, a.1))

    pub next_some : Some (record { start = s; end = s + r }) ≡ next_of l
    unfolding next_of
    next_some = rw (is_end, g, ne_eqb (gap_of l) (length l) (λ q. n (g ∙ q)))

  -- the first token, where the line has one or does not
  abbrev found : Bool → Option Token
  found b = cond b None (Some (record { start = gap_of l; end = end }))

  pub next_none : next_of l ≡ None → tokens l ≡ []
  unfolding next_of
  next_none e = go (eqb (gap_of l) (length l)) refl e
    where
      go : (b : Bool) → eqb (gap_of l) (length l) ≡ b → found b ≡ None → tokens l ≡ []
      go true t p = all_gap (eqb-true _ _ t)
      go false t p = cc

  pub all_next : next_of l ≡ None → gap_of l ≡ length l
  unfolding next_of
  all_next e = go (eqb (gap_of l) (length l)) refl e
    where
      go : (b : Bool) → eqb (gap_of l) (length l) ≡ b → found b ≡ None → gap_of l ≡ length l
      go true t p = eqb-true _ _ t
      go false t p = cc

  pub record First (t : Token) : Type 0 where
    pub order : t.start < t.end
    pub inside : t.end ≤ length l
    pub here : tokens l ≡ token_in l t ∷ tokens (drop t.end l)

  pub next_token : (t : Token) → next_of l ≡ Some t → First t
  unfolding next_of
  next_token t p = go (eqb (gap_of l) (length l)) refl p
    where
      go : (b : Bool) → eqb (gap_of l) (length l) ≡ b → found b ≡ Some t → First t
      go true e q = cc
      go false e q =
          let u : Token = record { start = gap_of l; end = end } in
          let i : u ≡ t = cc in
          let a = after_gap (eqb-false _ _ e) in
          subst First i (record { order = a.0; inside = a.1; here = a.2 })

  pub none_gap : none (tokens l) ≡ eqb (gap_of l) (length l)
  unfolding none
  none_gap = go (eqb (gap_of l) (length l)) refl
    where
      go : (b : Bool) → eqb (gap_of l) (length l) ≡ b → none (tokens l) ≡ b
      go true t = rw (all_gap (eqb-true _ _ t))
      go false t = rw (after_gap (eqb-false _ _ t)).2
