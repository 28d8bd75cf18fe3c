-- The literals of a clause, one after the other.
--   Scanning       the invariant of the loop: what was found of the literals before t, and what they left in the words
--   Scanned v rest old s new      what scanning answers and leaves
--   scan_start     nothing was found yet
--   scan_none, scan_end, scan_open      t has no literal in front; a 0 and nothing after it; a 0 and something after it
--   scan_head, scan_body      t has a positive literal in front; a negative one
--   scan_count, scan_rising   how many words were put in, at most; they rise
-- Assumes nothing.
use Prim.Native.Nat.{ℕ, suc, ◌-◌, ◌≤◌}
use mathlib.Core.Path.{◌≡◌, refl, sym, ap, ◌∙◌, subst}
use mathlib.Core.List.{List, [], ◌∷◌, ◌++◌, append-nil, append_assoc}
use mathlib.Core.Bool.{Bool, true, false, not, ◌&&◌, ◌||◌}
use native.Mathlib.Omega.{arith}
use lib.IntN.{ℤ, pos, negsuc}
use lib.ListN.{length, get_or, take, drop}
use lib.Seq.{take_at}
use lib.Dec.{ltb, leb, eqb}
use borrow.Author.Tests.{ltb-true, ltb-false, le-leb, lt-leb, eq-eqb, ne_eqb, eqb-true, eqb-false}
use Rattle.std.specs.Prelude.{Option, None, Some}
use Rattle.answer.specs.Space.{over}
use Rattle.answer.proofs.Spaces.{over_over}
use Rattle.field.specs.Words.{within, rising}
use Rattle.field.proofs.Parts.{part_end}
use Rattle.plain.specs.Plain.{minus}
use Rattle.text.specs.Lines.{tokens}
use Rattle.text.specs.Forms.{none, literals, closed}
use Rattle.text.specs.Taking.{heads, bodies, head_in, each}
use Rattle.line.specs.Starts.{next_literal}
use Rattle.line.specs.declared.Literal.TheVariants as LiteralV
use Rattle.line.proofs.Starts.{literal_none, literal_end, literal_head, literal_body}
use Rattle.clause_line.specs.Steps.{capped, enough, inserted_of, kept, kept_of, beyond, literals_of, scan_of}
use Rattle.clause_line.specs.declared.Scan.{Scan}
use Rattle.clause_line.proofs.Places.{Inserted}
use Rattle.clause_line.proofs.Kept.{inserted_more, kept_append, kept_rising, kept_most}
use Rattle.clause_line.proofs.Capped.{cap_some, heads_minus, bodies_minus, capped_minus}

-- ---- one literal more
heads_append : (zs ys : List ℤ) → heads (zs ++ ys) ≡ heads zs ++ heads ys
unfolding heads
heads_append [] ys = refl
heads_append (pos n ∷ zs) ys = ap (λ (ns : List ℕ). n ∷ ns) (heads_append zs ys)
heads_append (negsuc n ∷ zs) ys = heads_append zs ys

bodies_append : (zs ys : List ℤ) → bodies (zs ++ ys) ≡ bodies zs ++ bodies ys
unfolding bodies
bodies_append [] ys = refl
bodies_append (pos n ∷ zs) ys = bodies_append zs ys
bodies_append (negsuc n ∷ zs) ys = ap (λ (ns : List ℕ). suc n ∷ ns) (bodies_append zs ys)

and_assoc : (a b c : Bool) → (a && (b && c)) ≡ ((a && b) && c)
and_assoc true b c = refl
and_assoc false b c = refl

within_append : (low high : ℕ) (ns ms : List ℕ) → within low high (ns ++ ms) ≡ (within low high ns && within low high ms)
unfolding within
within_append low high [] ms = refl
within_append low high (n ∷ ns) ms =
    ap (λ (b : Bool). (leb low n && leb n high) && b) (within_append low high ns ms) ∙ and_assoc (leb low n && leb n high) (within low high ns) (within low high ms)

each_append : (h : ℕ) (ns ms : List ℕ) → each h (ns ++ ms) ≡ (each h ns && each h ms)
unfolding each
each_append h [] ms = refl
each_append h (n ∷ ns) ms = ap (λ (b : Bool). eqb n h && b) (each_append h ns ms) ∙ and_assoc (eqb n h) (each h ns) (each h ms)

-- one number beyond v
one_near : (v n : ℕ) → 1 ≤ n → within 1 v (n ∷ []) ≡ not (ltb v n)
unfolding within
one_near v n h = go (ltb v n) refl
  where
    go : (b : Bool) → ltb v n ≡ b → (leb 1 n && leb n v && true) ≡ not b
    go true e = simp (le-leb 1 n h, lt-leb n v (ltb-true v n e))
    go false e = simp (le-leb 1 n h, le-leb n v (ltb-false v n e))

far_first : (y z c : Bool) → ((not y || not z) || c) ≡ (not (y && not c) || not z)
far_first true true true = refl
far_first true true false = refl
far_first true false true = refl
far_first true false false = refl
far_first false z c = refl

far_second : (y z c : Bool) → ((not y || not z) || c) ≡ (not y || not (z && not c))
far_second true true true = refl
far_second true true false = refl
far_second true false true = refl
far_second true false false = refl
far_second false z c = refl

module _ (v n : ℕ) (zs : List ℤ) (some : 1 ≤ n) where
  heads_next : heads (zs ++ (pos n ∷ [])) ≡ heads zs ++ (n ∷ [])
  unfolding heads
  heads_next = heads_append zs (pos n ∷ [])

  bodies_stay : bodies (zs ++ (pos n ∷ [])) ≡ bodies zs
  unfolding bodies
  bodies_stay = bodies_append zs (pos n ∷ []) ∙ append-nil (bodies zs)

  heads_stay : heads (zs ++ (minus n ∷ [])) ≡ heads zs
  unfolding heads
  heads_stay = heads_append zs (minus n ∷ []) ∙ ap (λ (ns : List ℕ). heads zs ++ ns) (heads_minus n [] some) ∙ append-nil (heads zs)

  bodies_next : bodies (zs ++ (minus n ∷ [])) ≡ bodies zs ++ (n ∷ [])
  unfolding bodies
  bodies_next = bodies_append zs (minus n ∷ []) ∙ ap (λ (ns : List ℕ). bodies zs ++ ns) (bodies_minus n [] some)

  far_head : (beyond v zs || ltb v n) ≡ beyond v (zs ++ (pos n ∷ []))
  unfolding beyond
  far_head =
      far_first (within 1 v (heads zs)) (within 1 v (bodies zs)) (ltb v n)
      ∙ sym (rw (heads_next, bodies_stay, within_append 1 v (heads zs) (n ∷ []), one_near v n some))

  far_body : (beyond v zs || ltb v n) ≡ beyond v (zs ++ (minus n ∷ []))
  unfolding beyond
  far_body =
      far_second (within 1 v (heads zs)) (within 1 v (bodies zs)) (ltb v n)
      ∙ sym (rw (heads_stay, bodies_next, within_append 1 v (bodies zs) (n ∷ []), one_near v n some))

  kept_next : kept_of (zs ++ (minus n ∷ [])) ≡ inserted_of (kept_of zs) n
  unfolding kept
  kept_next = ap (kept []) bodies_next ∙ kept_append [] (bodies zs) (n ∷ [])

  kept_stay : kept_of (zs ++ (pos n ∷ [])) ≡ kept_of zs
  kept_stay = ap (kept []) bodies_stay

eqb_sym : (a b : ℕ) → eqb a b ≡ eqb b a
eqb_sym a b = go (eqb b a) refl
  where
    go : (t : Bool) → eqb b a ≡ t → eqb a b ≡ t
    go true e = eq-eqb a b (sym (eqb-true b a e))
    go false e = ne_eqb a b (λ q. eqb-false b a e (sym q))

or_not : (a b : Bool) → (not a || not b) ≡ not (a && (b && true))
or_not true true = refl
or_not true false = refl
or_not false b = refl

-- one head more
record Headed (hs : List ℕ) (h n h' : ℕ) : Type 0 where
  pub several : (not (each (get_or hs 0 0) hs) || not (eqb h' n)) ≡ not (each (get_or (hs ++ (n ∷ [])) 0 0) (hs ++ (n ∷ [])))
  pub head : h' ≡ get_or (hs ++ (n ∷ [])) 0 0
  pub some : get_or (hs ++ (n ∷ [])) 0 0 ≡ 0 → hs ++ (n ∷ []) ≡ []

headed : (hs : List ℕ) (h n h' : ℕ) → 1 ≤ n → h ≡ get_or hs 0 0 → (get_or hs 0 0 ≡ 0 → hs ≡ []) → (h ≡ 0 → h' ≡ n) → ((h ≡ 0 → ⊥) → h' ≡ h) → Headed hs h n h'
unfolding each
headed [] h n h' l e s f g =
    let q : h' ≡ n = f e in
    record {
      several = rw (q, eq-eqb n n refl);
      head = q;
      some = λ z. absurd (omega arith);
    }
headed (d ∷ ds) h n h' l e s f g =
    let a : d ≡ 0 → ⊥ = λ z. let k = ap length (s z) in absurd (omega arith) in
    let q : h' ≡ d = g (λ z. a (sym e ∙ z)) ∙ e in
    record {
      several =
          ap (λ (j : ℕ). not (each d (d ∷ ds)) || not (eqb j n)) q
          ∙ ap (λ (b : Bool). not (each d (d ∷ ds)) || not b) (eqb_sym d n)
          ∙ or_not (each d (d ∷ ds)) (eqb n d)
          ∙ ap not (sym (each_append d (d ∷ ds) (n ∷ [])));
      head = q;
      some = λ z. absurd (a z);
    }

same_scan : (b b' d d' : Bool) (h h' c c' : ℕ) → b ≡ b' → d ≡ d' → h ≡ h' → c ≡ c'
    → ◌≡◌ {A = Scan} (record { beyond = b; several = d; head = h; count = c }) (record { beyond = b'; several = d'; head = h'; count = c' })
same_scan b b' d d' h h' c c' p q r s = rw (p, q, r, s)

-- ---- the loop: `rest` is the line from the beginning, t from here on, and s is what was found so far
pub record Scanning (v : ℕ) (rest t old body : List ℕ) (s : Scan) : Type 0 where
  pub done : List ℤ
  pub split : capped (literals (tokens rest)) ≡ done ++ capped (literals (tokens t))
  pub ending : closed (tokens rest) ≡ closed (tokens t)
  pub is_found : s ≡ literals_of v done
  pub some : head_in done ≡ 0 → heads done ≡ []
  pub is_body : body ≡ over (kept_of done) old

abbrev pub Scanned : ℕ → List ℕ → List ℕ → Option Scan → List ℕ → Type 0
Scanned v rest old s new = (s ≡ scan_of v (tokens rest)) × (new ≡ over (kept_of (capped (literals (tokens rest)))) old)

abbrev pub nothing : Scan
nothing = record { beyond = false; several = false; head = 0; count = 0 }

pub scan_start : (v : ℕ) (rest old : List ℕ) → Scanning v rest rest old old nothing
unfolding beyond within each heads bodies kept
scan_start v rest old = record { done = []; split = refl; ending = refl; is_found = refl; some = λ e. refl; is_body = refl }

module _ (v : ℕ) (rest t old body : List ℕ) (s : Scan) (S : Scanning v rest t old body s) where
  -- where no literal is left, what was found is all
  all : literals (tokens t) ≡ [] → capped (literals (tokens rest)) ≡ S.done
  unfolding capped
  all e = S.split ∙ ap (λ (zs : List ℤ). S.done ++ capped zs) e ∙ append-nil S.done

  left : literals (tokens t) ≡ [] → body ≡ over (kept_of (capped (literals (tokens rest)))) old
  left e = S.is_body ∙ ap (λ (zs : List ℤ). over (kept_of zs) old) (sym (all e))

  formless : literals (tokens t) ≡ [] → closed (tokens t) ≡ false → Scanned v rest old None body
  unfolding scan_of
  formless e f = (sym (rw (S.ending ∙ f)), left e)

  pub scan_none : next_literal t ≡ None → Scanned v rest old None body
  scan_none e = let q = literal_none t e in formless q.0 q.1

  module _ (next : ℕ) (end_next : next_literal t ≡ Some (LiteralV.End, next)) (blank : Bool) (is : blank ≡ none (tokens (take (length t - next) (drop next t)))) where
    closes : closed (tokens t) ≡ blank
    closes = (literal_end t next end_next).2 ∙ ap (λ (u : List ℕ). none (tokens u)) (sym (part_end t next)) ∙ sym is

    pub scan_open : blank ≡ false → Scanned v rest old None body
    scan_open e = formless (literal_end t next end_next).1 (closes ∙ e)

    pub scan_end : blank ≡ true → Scanned v rest old (Some s) body
    unfolding scan_of
    scan_end e =
        let a = (literal_end t next end_next).1 in
        (ap Some (S.is_found ∙ ap (literals_of v) (sym (all a))) ∙ sym (rw (S.ending ∙ (closes ∙ e))), left a)

  pub scan_head : (n next : ℕ) → next_literal t ≡ Some (LiteralV.Head n, next) → (h : ℕ) → (s.head ≡ 0 → h ≡ n) → ((s.head ≡ 0 → ⊥) → h ≡ s.head)
      → Scanning v rest (take (length t - next) (drop next t)) old body (record { beyond = s.beyond || ltb v n; several = s.several || not (eqb h n); head = h; count = s.count })
  unfolding capped
  scan_head n next e h f g =
      let w = literal_head t n next e in
      let z = S.done in
      let one : 1 ≤ n = subst (λ (m : ℕ). 1 ≤ m) (sym w.told) (cap_some w.number w.some) in
      let is_far = ap (λ (x : Scan). x.beyond) S.is_found in
      let is_several = ap (λ (x : Scan). x.several) S.is_found in
      let is_head = ap (λ (x : Scan). x.head) S.is_found in
      let is_count = ap (λ (x : Scan). x.count) S.is_found in
      let d = headed (heads z) s.head n h one is_head S.some f g in
      let q = heads_next v n z one in
      let p1 = ap (λ (b : Bool). b || ltb v n) is_far ∙ far_head v n z one in
      let p2 = ap (λ (b : Bool). b || not (eqb h n)) is_several ∙ d.several ∙ ap (λ (hs : List ℕ). not (each (get_or hs 0 0) hs)) (sym q) in
      let p3 = d.head ∙ ap (λ (hs : List ℕ). get_or hs 0 0) (sym q) in
      let p4 = is_count ∙ ap length (sym (kept_stay v n z one)) in
      rw (part_end t next)
      (record {
        done = z ++ (pos n ∷ []);
        split =
            S.split
            ∙ ap (λ (zs : List ℤ). z ++ capped zs) w.these
            ∙ ap (λ (m : ℕ). z ++ (pos m ∷ capped (literals (tokens (drop next t))))) (sym w.told)
            ∙ sym (append_assoc z (pos n ∷ []) (capped (literals (tokens (drop next t)))));
        ending = S.ending ∙ w.ending;
        is_found = same_scan _ _ _ _ _ _ _ _ p1 p2 p3 p4;
        some = λ y. q ∙ d.some (ap (λ (hs : List ℕ). get_or hs 0 0) (sym q) ∙ y);
        is_body = S.is_body ∙ ap (λ (ws : List ℕ). over ws old) (sym (kept_stay v n z one));
      })

  -- the words that were put in
  put : take s.count body ≡ kept_of S.done
  put =
      ap (take s.count) S.is_body ∙ take_at (kept_of S.done) (drop (length (kept_of S.done)) old) s.count (sym (ap (λ (x : Scan). x.count) S.is_found))

  pub scan_count : s.count ≤ enough
  scan_count = omega (arith, ap (λ (x : Scan). x.count) S.is_found, kept_most S.done)

  pub scan_rising : rising 0 (take s.count body) ≡ true
  scan_rising = ap (rising 0) put ∙ kept_rising S.done

  pub scan_body : (n next : ℕ) → next_literal t ≡ Some (LiteralV.Body n, next) → (count : ℕ) (body' : List ℕ) → Inserted body s.count n count body'
      → Scanning v rest (take (length t - next) (drop next t)) old body' (record { beyond = s.beyond || ltb v n; several = s.several; head = s.head; count = count })
  scan_body n next e count body' p =
      let w = literal_body t n next e in
      let z = S.done in
      let one : 1 ≤ n = subst (λ (m : ℕ). 1 ≤ m) (sym w.told) (cap_some w.number w.some) in
      let q = heads_stay v n z one in
      let i : inserted_of (take s.count body) n ≡ kept_of (z ++ (minus n ∷ [])) = ap (λ (ws : List ℕ). inserted_of ws n) put ∙ sym (kept_next v n z one) in
      let m : length (kept_of z) ≤ length (kept_of (z ++ (minus n ∷ []))) = omega (arith, inserted_more (kept_of z) n, ap length (kept_next v n z one)) in
      let p1 = ap (λ (x : Scan). x.beyond || ltb v n) S.is_found ∙ far_body v n z one in
      let p2 = ap (λ (x : Scan). x.several) S.is_found ∙ ap (λ (hs : List ℕ). not (each (get_or hs 0 0) hs)) (sym q) in
      let p3 = ap (λ (x : Scan). x.head) S.is_found ∙ ap (λ (hs : List ℕ). get_or hs 0 0) (sym q) in
      let p4 = p.0 ∙ ap length i in
      rw (part_end t next)
      (record {
        done = z ++ (minus n ∷ []);
        split =
            S.split
            ∙ ap (λ (zs : List ℤ). z ++ capped zs) w.these
            ∙ ap (λ (zs : List ℤ). z ++ zs) (capped_minus w.number (literals (tokens (drop next t))) w.some)
            ∙ ap (λ (k : ℕ). z ++ (minus k ∷ capped (literals (tokens (drop next t))))) (sym w.told)
            ∙ sym (append_assoc z (minus n ∷ []) (capped (literals (tokens (drop next t)))));
        ending = S.ending ∙ w.ending;
        is_found = same_scan _ _ _ _ _ _ _ _ p1 p2 p3 p4;
        some = λ y. q ∙ S.some (ap (λ (hs : List ℕ). get_or hs 0 0) (sym q) ∙ y);
        is_body =
            p.1 ∙ ap (λ (ws : List ℕ). over ws body) i ∙ ap (over (kept_of (z ++ (minus n ∷ [])))) S.is_body
            ∙ over_over (kept_of (z ++ (minus n ∷ []))) (kept_of z) old m;
      })
