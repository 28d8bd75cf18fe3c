-- What holds as a plain form that was taken is written.
--   words_more                  what is left of some numbers, by the next
--   clause_wrote                a clause's field: its front, its groups, its head, its body
--   header_wrote                the header
--   Copying                     the invariant of `put_clauses`: t is the plain form of the clauses that are left
--   Copy, copy                  what it says at a clause
--   copy_room, copy_next        there is room for the clause; its next turn
--   copy_scanned, copy_none     a scan finds nothing wrong
--   copy_last, copy_end         at the end: there is room for it, and all is written
-- Assumes nothing.
use Prim.Native.Nat.{ℕ, zero, suc, ◌+◌, ◌-◌, ◌*◌, ◌%◌, ◌≤◌, ◌<◌}
use mathlib.Core.Path.{◌≡◌, refl, sym, ap, ◌∙◌}
use mathlib.Core.List.{List, [], ◌∷◌, ◌++◌}
use mathlib.Core.Bool.{true}
use native.Mathlib.Omega.{arith}
use lib.IntN.{ℤ, pos, nat_abs, neg_ℤ}
use lib.ListN.{length, get_or, take, drop, length-append, length-drop}
use lib.Seq.{drop-cons, take_at}
use Rattle.std.specs.Prelude.{map, Result, Ok, Err}
use Rattle.std.proofs.Math.Numerals.{add-one}
use Rattle.std.proofs.lemmas.List.{length-map}
use Rattle.answer.specs.Answer.{answered, refused}
use Rattle.answer.specs.Refusals.{answer_is}
use Rattle.answer.specs.declared.Refusal.{Refusal}
use Rattle.answer.specs.Space.{Wrote}
use Rattle.answer.proofs.Spaces.{wrote_append, Writing, writing_room, writing_next, writing_end}
use Rattle.field.specs.Words.{word_bytes, within}
use Rattle.field.specs.Field.{field_bytes}
use Rattle.field.proofs.Parts.{part_end}
use Rattle.field.proofs.Words.{within_one, within_cons, length_word_bytes, word_bytes_append}
use Rattle.field.proofs.Fields.{field_front}
use Rattle.meaning.specs.Book.{Clause, clause_from}
use Rattle.book.specs.Bytes.{GoodClause, GoodClauses, clause_bytes, clauses_bytes}
use Rattle.book.proofs.Sizes.{clause_length}
use Rattle.plain.specs.Plain.{minus, each, literals, head_literal, plain_clause, plain_clauses}
use Rattle.plain.specs.Taking.{Ended, literals_at}
use Rattle.plain.proofs.Given.{length_each, clause_numbers, plain_one, body_taken}
use Rattle.plain.proofs.Back.{Place, place_more, literals_back}
use Rattle.writer.specs.Steps.{scan_of, amounts}
use Rattle.writer.specs.declared.Scanned.{Scanned}
use Rattle.writer.proofs.Passing.{scan_closed}

pub words_more : {A : Type 0} (f : A → ℕ) (xs : List A) (i w : ℕ) (x : A) → i < length xs → x ≡ get_or xs i x → w ≡ f x
    → word_bytes (map f (drop i xs)) ≡ word_bytes (w ∷ []) ++ word_bytes (map f (drop (i + 1) xs))
unfolding word_bytes
words_more f xs i w x h is e = rw (add-one, drop-cons xs i x, ← is, e)

-- the variables of a body are small
amounts_literals : (v : ℕ) (ws : List ℕ) → v ≤ 1024 → within 1 v ws ≡ true → amounts (literals ws) ≡ ws
unfolding each
amounts_literals v [] h e = refl
amounts_literals v (w ∷ ws) h e =
    let p = within_cons 1 v w ws e in
    simp (abs w, amounts_literals v ws h p.2) (ap (λ (k : ℕ). k ∷ ws) (small w (omega (arith, p.1))))
  where
    abs : (k : ℕ) → nat_abs (neg_ℤ (pos k)) ≡ k
    abs zero = refl
    abs (suc k) = refl

    small : (k : ℕ) → k < 65536 → k % 65536 ≡ k
    small k h = omega arith

-- a clause's field, and the header
value_is : (gs : List ℕ) (h : ℕ) (ws : List ℕ) → word_bytes gs ++ (word_bytes (h ∷ []) ++ word_bytes ws) ≡ word_bytes (gs ++ (h ∷ ws))
unfolding word_bytes
value_is gs h ws = sym (word_bytes_append gs (h ∷ ws))

pub clause_wrote : (gs ws : List ℕ) (h n : ℕ) (l : List ℕ) (at : ℕ) (o1 : List ℕ) (a : ℕ) (o2 : List ℕ) (b : ℕ) (o3 : List ℕ) (c : ℕ) (o4 : List ℕ) (d : ℕ)
    → n ≡ 2 * length gs + 2 + 2 * length ws
    → Wrote l at (2 ∷ word_bytes (n ∷ [])) o1 a → Wrote o1 a (word_bytes gs) o2 b → Wrote o2 b (word_bytes (h ∷ [])) o3 c → Wrote o3 c (word_bytes ws) o4 d
    → Wrote l at (clause_bytes (clause_from gs h ws)) o4 d
unfolding clause_bytes
clause_wrote gs ws h n l at o1 a o2 b o3 c o4 d e p q r s =
    let value : List ℕ = word_bytes gs ++ (word_bytes (h ∷ []) ++ word_bytes ws) in
    let is : value ≡ word_bytes (gs ++ (h ∷ ws)) = value_is gs h ws in
    let long : n ≡ length (word_bytes (gs ++ (h ∷ ws))) = omega (arith, length_word_bytes (gs ++ (h ∷ ws)), length-append gs (h ∷ ws)) in
    let whole : (2 ∷ word_bytes (n ∷ [])) ++ value ≡ field_bytes 2 (word_bytes (gs ++ (h ∷ ws))) =
    ap (λ (k : ℕ). (2 ∷ word_bytes (k ∷ [])) ++ value) long
    ∙ ap (λ (v : List ℕ). (2 ∷ word_bytes (length (word_bytes (gs ++ (h ∷ ws))) ∷ [])) ++ v) is
    ∙ field_front 2 (word_bytes (gs ++ (h ∷ ws))) in
    simp (← whole)
    (wrote_append l at (2 ∷ word_bytes (n ∷ [])) o1 a value o4 d p
    (wrote_append o1 a (word_bytes gs) o2 b (word_bytes (h ∷ []) ++ word_bytes ws) o4 d q
    (wrote_append o2 b (word_bytes (h ∷ [])) o3 c (word_bytes ws) o4 d r s)))

pub header_wrote : (v g : ℕ) (l o1 : List ℕ) (a : ℕ) (o2 : List ℕ) (b : ℕ) (o3 : List ℕ) (c : ℕ)
    → Wrote l 0 (1 ∷ word_bytes (4 ∷ [])) o1 a → Wrote o1 a (word_bytes (v ∷ [])) o2 b → Wrote o2 b (word_bytes (g ∷ [])) o3 c
    → Wrote l 0 (field_bytes 1 (word_bytes (v ∷ g ∷ []))) o3 c
unfolding word_bytes field_bytes
header_wrote v g l o1 a o2 b o3 c p q r =
    wrote_append l 0 (1 ∷ word_bytes (4 ∷ [])) o1 a (word_bytes (v ∷ []) ++ word_bytes (g ∷ [])) o3 c p
    (wrote_append o1 a (word_bytes (v ∷ [])) o2 b (word_bytes (g ∷ [])) o3 c q r)

-- the clauses that are left
pub record Copying (v g : ℕ) (all : List Clause) (size : ℕ) (out₀ out : List ℕ) (t : List ℤ) (i at : ℕ) : Type 0 where
  pub left : List Clause
  pub same : plain_clauses left ≡ t
  pub good : GoodClauses v g left
  pub variables : v ≤ 1024
  pub groups : g ≤ 65535
  pub place : i + length t ≡ size
  pub writing : Writing (clauses_bytes all) out₀ 7 out at (clauses_bytes left)

-- at a clause, whose group is x: s is what the scan of the numbers u after it found
pub record Copy (v g : ℕ) (x : ℤ) (u : List ℤ) (i : ℕ) (left : List Clause) (s : Scanned) : Type 0 where
  pub now : Clause
  pub later : List Clause
  pub is : left ≡ now ∷ later
  pub good : GoodClause v g now
  pub above : i < s.next
  pub inside : s.next ≤ i + length (x ∷ u)
  pub rest : drop (s.next - i) (x ∷ u) ≡ plain_clauses later
  pub few : s.count ≤ 32
  pub long : s.count ≤ length u
  pub here : clause_from ((nat_abs x % 65536) ∷ []) s.head (amounts (take s.count u)) ≡ now

-- what a scan finds in the plain form of a clause
scan_one : (v g i : ℕ) (c : Clause) (n : ℕ) (xs : List ℤ) → GoodClause v g c → c.groups ≡ n ∷ []
    → (e : Ended) × (literals_at v 0 0 0 (i + 1) (literals c.body ++ (head_literal c.head ++ (pos 0 ∷ xs))) ≡ answered e) × (e.head ≡ c.head) × (e.body ≡ c.body) × (e.rest ≡ xs)
scan_one v g i c n xs k e =
    let b = body_taken v 0 0 (i + 1) c.head c.body xs k.head (record { inside = k.variables; rises = k.rises; few = omega (arith, k.few) }) in
    (record { head = c.head; body = c.body; next = b.0; rest = xs }, b.1, refl, refl, refl)

module _ (v g : ℕ) (vs : v ≤ 1024) (gs : g ≤ 65535) (i : ℕ) (d : Clause) (ds : List Clause) (k : GoodClause v g d) (n : ℕ) (one : d.groups ≡ n ∷ []) where
  abbrev after : List ℤ
  after = literals d.body ++ (head_literal d.head ++ (pos 0 ∷ plain_clauses ds))

  body_part_lem : take (length d.body) after ≡ literals d.body
  body_part_lem = take_at (literals d.body) (head_literal d.head ++ (pos 0 ∷ plain_clauses ds)) (length d.body) (length_each minus d.body)

  copy_one : (s : Scanned) → answered s ≡ scan_of 0 (literals_at v 0 0 0 (i + 1) after) → Copy v g (pos n) after i (d ∷ ds) s
  copy_one s q =
      let f = scan_closed (literals_at v 0 0 0 (i + 1) after) s q in
      let o = scan_one v g i d n (plain_clauses ds) k one in
      let same : answered f.0 ≡ answered o.0 = sym f.1 ∙ o.1 in
      let e : f.0 ≡ o.0 = cc in
      let b = literals_back v 0 0 (i + 1) after f.0 (omega arith) f.1 in
      let p : Place i (pos n ∷ after) f.0.next f.0.rest = place_more i (pos n) after f.0.next f.0.rest b.place in
      let body : f.0.body ≡ d.body = ap (λ (m : Ended). m.body) e ∙ o.3 in
      let head : f.0.head ≡ d.head = ap (λ (m : Ended). m.head) e ∙ o.2 in
      let rest : f.0.rest ≡ plain_clauses ds = ap (λ (m : Ended). m.rest) e ∙ o.4 in
      let count : s.count ≡ length d.body = f.3 ∙ ap length body in
      let small : n ≤ g = within_one 0 g n (simp one at k.inside) in
      let low : n % 65536 ≡ n = omega arith in
      record {
        now = d;
        later = ds;
        is = refl;
        good = k;
        above = omega (arith, p.above, f.4);
        inside = omega (arith, p.inside, f.4);
        rest = ap (λ (m : ℕ). drop (m - i) (pos n ∷ after)) f.4 ∙ p.rest ∙ rest;
        few = omega (arith, k.few);
        long = omega (arith, length-append (literals d.body) (head_literal d.head ++ (pos 0 ∷ plain_clauses ds)), length_each minus d.body);
        here = simp (f.2 ∙ head, count, body_part_lem, amounts_literals v d.body vs k.variables, low) (ap (λ (l : List ℕ). clause_from l d.head d.body) (sym one));
      }

-- where a clause is left
module _ (v g : ℕ) (vs : v ≤ 1024) (gs : g ≤ 65535) (i : ℕ) (x : ℤ) (u : List ℤ) where
  copy_of : (left : List Clause) → plain_clauses left ≡ x ∷ u → GoodClauses v g left → (s : Scanned) → answered s ≡ scan_of 0 (literals_at v 0 0 0 (i + 1) u) → Copy v g x u i left s
  unfolding plain_clauses
  copy_of [] same good s q = cc
  copy_of (d ∷ ds) same good s q = go d.groups refl
    where
      go : (ns : List ℕ) → d.groups ≡ ns → Copy v g x u i (d ∷ ds) s
      go [] e = absurd (omega (arith, ap length e, good.0.one))
      go (n ∷ (m ∷ ns)) e = absurd (omega (arith, ap length e, good.0.one))
      go (n ∷ []) e =
          let is : pos n ∷ after v g vs gs i d ds good.0 n e ≡ x ∷ u = sym (plain_one d n (plain_clauses ds) e) ∙ same in
          let a : pos n ≡ x = cc in
          let b : after v g vs gs i d ds good.0 n e ≡ u = cc in
          simp (← a, ← b) (copy_one v g vs gs i d ds good.0 n e s (simp b q))

  -- so a scan never finds anything wrong
  scanned_of : (left : List Clause) → plain_clauses left ≡ x ∷ u → GoodClauses v g left → (e : Ended) × (literals_at v 0 0 0 (i + 1) u ≡ answered e)
  unfolding plain_clauses
  scanned_of [] same good = cc
  scanned_of (d ∷ ds) same good = go d.groups refl
    where
      go : (ns : List ℕ) → d.groups ≡ ns → (e : Ended) × (literals_at v 0 0 0 (i + 1) u ≡ answered e)
      go [] e = absurd (omega (arith, ap length e, good.0.one))
      go (n ∷ (m ∷ ns)) e = absurd (omega (arith, ap length e, good.0.one))
      go (n ∷ []) e =
          let a : List ℤ = literals d.body ++ (head_literal d.head ++ (pos 0 ∷ plain_clauses ds)) in
          let is : x ∷ u ≡ pos n ∷ a = sym same ∙ plain_one d n (plain_clauses ds) e in
          let b : u ≡ a = cc in
          let f = scan_one v g i d n (plain_clauses ds) good.0 e in
          (f.0, ap (literals_at v 0 0 0 (i + 1)) b ∙ f.1)

none_left : (cs : List Clause) → length (plain_clauses cs) ≡ 0 → cs ≡ []
unfolding plain_clauses
none_left [] h = refl
none_left (c ∷ cs) h = absurd (omega (arith, length-append (plain_clause c) (plain_clauses cs), clause_numbers c))

ok_of : (r : Result Scanned Refusal) (s : Scanned) → answer_is (λ k. k) r ≡ answered s → r ≡ Ok s
ok_of (Ok k) s e = cc
ok_of (Err k) s e = cc

module _ (v g : ℕ) (all : List Clause) (size : ℕ) (out₀ out : List ℕ) (t : List ℤ) (i at : ℕ) (p : Copying v g all size out₀ out t i at) where
  module _ (x : ℤ) (u : List ℤ) (is : t ≡ x ∷ u) where
    pub copy_scanned : (r : Result Scanned Refusal) → answer_is (λ s. s) r ≡ scan_of 0 (literals_at v 0 0 0 (i + 1) u) → (s : Scanned) × (r ≡ Ok s)
    unfolding scan_of
    copy_scanned r q =
        let e = scanned_of v g p.variables p.groups i x u p.left (p.same ∙ is) p.good in
        (record { head = e.0.head; count = 0 + length e.0.body; next = e.0.next }, ok_of r _ (q ∙ ap (scan_of 0) e.1))

    pub copy_none : (n q : ℕ) → refused n q ≡ scan_of 0 (literals_at v 0 0 0 (i + 1) u) → ⊥
    unfolding scan_of
    copy_none n q r =
        let e = scanned_of v g p.variables p.groups i x u p.left (p.same ∙ is) p.good in
        let w : refused n q ≡ scan_of 0 (answered e.0) = r ∙ ap (scan_of 0) e.1 in
        let z : ◌≡◌ {A = ℕ} 0 1 = cc in
        omega arith

    module _ (s : Scanned) (q : answered s ≡ scan_of 0 (literals_at v 0 0 0 (i + 1) u)) where
      pub copy : Copy v g x u i p.left s
      copy = copy_of v g p.variables p.groups i x u p.left (p.same ∙ is) p.good s q

      abbrev bytes : List ℕ
      bytes = clause_bytes (clause_from ((nat_abs x % 65536) ∷ []) s.head (amounts (take s.count u)))

      split : clauses_bytes p.left ≡ bytes ++ clauses_bytes copy.later
      unfolding clauses_bytes
      split = ap clauses_bytes copy.is ∙ ap (λ (d : Clause). clause_bytes d ++ clauses_bytes copy.later) (sym copy.here)

      pub copy_room : 7 + length (clauses_bytes all) ≤ length out₀ → at + (7 + 2 * length (take s.count u)) ≤ length out
      copy_room r =
          omega (
            arith,
            writing_room (clauses_bytes all) out₀ 7 out at (clauses_bytes p.left) p.writing r,
            ap length split ∙ length-append bytes (clauses_bytes copy.later),
            clause_length (clause_from ((nat_abs x % 65536) ∷ []) s.head (amounts (take s.count u))),
            length-map (take s.count u) (λ x. nat_abs x % 65536),
          )

      pub copy_next : (out' : List ℕ) (at' : ℕ) → Wrote out at bytes out' at' → Copying v g all size out₀ out' (take (length t - (s.next - i)) (drop (s.next - i) t)) s.next at'
      copy_next out' at' w =
          let end : take (length t - (s.next - i)) (drop (s.next - i) t) ≡ drop (s.next - i) t = part_end t (s.next - i) in
          record {
            left = copy.later;
            same = sym (end ∙ ap (drop (s.next - i)) is ∙ copy.rest);
            good = later_good v g p.left p.good copy.now copy.later copy.is;
            variables = p.variables;
            groups = p.groups;
            place = simp end (omega (arith, length-drop (s.next - i) t, p.place, copy.above, copy.inside, ap length is));
            writing = writing_next (clauses_bytes all) out₀ 7 out at (clauses_bytes p.left) p.writing bytes (clauses_bytes copy.later) out' at' split w;
          }
        where
          later_good : (v g : ℕ) (cs : List Clause) → GoodClauses v g cs → (d : Clause) (ds : List Clause) → cs ≡ d ∷ ds → GoodClauses v g ds
          later_good v g [] good d ds e = cc
          later_good v g (c ∷ cs) good d ds e = let q : cs ≡ ds = cc in simp (← q) good.1

  -- after the last clause
  module _ (e : length t ≡ 0) where
    none : p.left ≡ []
    none = none_left p.left (ap length p.same ∙ e)

    pub copy_last : 7 + length (clauses_bytes all) ≤ length out₀ → at + 3 ≤ length out
    unfolding clauses_bytes field_bytes
    copy_last r = omega (arith, writing_room (clauses_bytes all) out₀ 7 out at (clauses_bytes p.left) p.writing r, ap (λ (cs : List Clause). length (clauses_bytes cs)) none)

    pub copy_end : (out' : List ℕ) (r : ℕ) → Wrote out at (0 ∷ word_bytes (0 ∷ [])) out' r → Wrote out₀ 7 (clauses_bytes all) out' r
    unfolding clauses_bytes field_bytes word_bytes
    copy_end out' r w =
        let k = writing_next (clauses_bytes all) out₀ 7 out at (clauses_bytes p.left) p.writing (0 ∷ word_bytes (0 ∷ [])) [] out' r (ap clauses_bytes none) w in
        writing_end (clauses_bytes all) out₀ 7 out' r [] k refl
