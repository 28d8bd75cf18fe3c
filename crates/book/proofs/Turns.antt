-- A walk by places over the bytes of an accepted book's clauses: what `front_of` says of what stands first, and what follows.
--   front_end, Places, places      of any bytes: too few for a clause, or where the parts of the clause lie that stands first
--   walk_over          at the end no clause is left
--   Turn, walk_on      at a clause: where its parts lie, and that the walk goes on after it
--   Given, walk_gives      of the walk that programs go: it gives the clause of a turn, with its parts, and goes on after it
-- Assumes nothing.
use Prim.Native.Nat.{ℕ, ◌+◌, ◌-◌, ◌*◌, ◌≤◌, ◌<◌}
use mathlib.Core.Path.{◌≡◌, refl, sym, ap, subst, ◌∙◌}
use mathlib.Core.List.{List, [], ◌∷◌, ◌++◌}
use mathlib.Core.Logic.{inl, inr}
use native.Mathlib.Omega.{arith}
use lib.ListN.{length, take, drop}
use borrow.Author.Tests.{lt-ltb, le-ltb}
use Rattle.std.specs.Prelude.{Some}
use Rattle.field.specs.Words.{words}
use Rattle.field.specs.Field.{len, size, field_bytes}
use Rattle.field.proofs.Parts.{part_end}
use Rattle.field.proofs.Words.{words_bytes, words_two}
use Rattle.meaning.specs.Book.{Clause}
use Rattle.book.specs.Bytes.{GoodClause, clause_bytes, clauses_bytes}
use Rattle.book.specs.Reading.{head_of}
use Rattle.book.specs.Front.{front_of}
use Rattle.book.specs.declared.front.Front.TheVariants as FrontV
use Rattle.book.proofs.Left.{split}
use Rattle.book.proofs.Written.{Starts, starts}
use Rattle.book.specs.declared.accepted.Clause.{Clause as Part}
use Rattle.book.specs.declared.accepted.Clauses.{Clauses}
use Rattle.book.specs.Clauses.{clause_is, clauses_left, GivesFirst}
use Rattle.book.proofs.Walk.{Walk, left_walk}

-- what `front_of` says of bytes that may be no accepted book's
module _ (r : List ℕ) where
  short : length r < 7 → front_of r ≡ FrontV.End
  unfolding front_of
  short h = simp (lt-ltb (length r) 7 h)

  enough : 7 ≤ length r → front_of r ≡ FrontV.Clause 3 (head_of r) 7 (size r)
  unfolding front_of
  enough h = simp (le-ltb (length r) 7 h)

  pub front_end : front_of r ≡ FrontV.End → length r < 7
  front_end e = elim (split (length r) 7) [ inl h ↦ h | inr h ↦ let f = enough h in let z : ◌≡◌ {A = ℕ} 0 1 = cc in absurd (omega arith) ]

  pub record Places (g h b n : ℕ) : Type 0 where
    pub long : 7 ≤ length r
    pub groups : g ≡ 3
    pub head : h ≡ head_of r
    pub body : b ≡ 7
    pub ends : n ≡ size r

  pub places : (g h b n : ℕ) → front_of r ≡ FrontV.Clause g h b n → Places g h b n
  places g h b n e =
      elim (split (length r) 7) [
        | inl k ↦ let f = short k in let z : ◌≡◌ {A = ℕ} 0 1 = cc in absurd (omega arith)
        | inr k ↦ let f = enough k in record { long = k; groups = cc; head = cc; body = cc; ends = cc }
      ]

-- where a clause is left, it stands first
record Ahead (v g : ℕ) (r : List ℕ) (c : Clause) (cs : List Clause) : Type 0 where
  starts : Starts c (clauses_bytes cs) r
  good : GoodClause v g c
  walk : Walk v g (take (length r - size r) (drop (size r) r)) cs
  front : front_of r ≡ FrontV.Clause 3 c.head 7 (size r)

at_first : (c : Clause) (rest r : List ℕ) → length c.groups ≡ 1 → clause_bytes c ++ rest ≡ r → Starts c rest r
at_first c rest r one e = simp (← e) (starts c rest one)

ahead : (v g : ℕ) (r : List ℕ) (c : Clause) (cs : List Clause) → Walk v g r (c ∷ cs) → Ahead v g r c cs
unfolding clauses_bytes
ahead v g r c cs w =
    let s : Starts c (clauses_bytes cs) r = at_first c (clauses_bytes cs) r w.good.0.one w.bytes in
    let long : 7 ≤ length r = omega (arith, s.fits, s.long) in
    record {
      starts = s;
      good = w.good.0;
      walk = record { bytes = sym (part_end r (size r) ∙ s.follows); good = w.good.1 };
      front = enough r long ∙ simp s.head;
    }

at_end : (v g : ℕ) (r : List ℕ) → Walk v g r [] → front_of r ≡ FrontV.End
unfolding clauses_bytes field_bytes
at_end v g r w = short r (omega (arith, ap length w.bytes))

pub walk_over : (v g : ℕ) (r : List ℕ) (cs : List Clause) → Walk v g r cs → front_of r ≡ FrontV.End → cs ≡ []
walk_over v g r [] w e = refl
walk_over v g r (c ∷ cs) w e = let f = (ahead v g r c cs w).front in let z : ◌≡◌ {A = ℕ} 0 1 = cc in absurd (omega arith)

pub record Turn (v g : ℕ) (r : List ℕ) (cs : List Clause) (from h body size : ℕ) : Type 0 where
  pub now : Clause
  pub later : List Clause
  pub is : cs ≡ now ∷ later
  pub good : GoodClause v g now
  pub head : h ≡ now.head
  pub before : from + 2 ≤ body
  pub groups : words (take (body - 2 - from) (drop from r)) ≡ now.groups
  pub least : body ≤ size
  pub most : size ≤ 71
  pub fits : size ≤ length r
  pub long : size ≡ body + 2 * length now.body
  pub numbers : words (take (size - body) (drop body r)) ≡ now.body
  pub next : Walk v g (take (length r - size) (drop size r)) later

pub walk_on : (v g : ℕ) (r : List ℕ) (cs : List Clause) (from h body n : ℕ) → Walk v g r cs → front_of r ≡ FrontV.Clause from h body n → Turn v g r cs from h body n
walk_on v g r [] from h body n w e = let f = at_end v g r w in let z : ◌≡◌ {A = ℕ} 0 1 = cc in absurd (omega arith)
walk_on v g r (c ∷ cs) from h body n w e =
    let a = ahead v g r c cs w in
    let f = a.front in
    let s = a.starts in
    let one : from ≡ 3 = cc in
    let two : body ≡ 7 = cc in
    let same : n ≡ size r = cc in
    let cut : n - body ≡ len r - 4 = omega arith in
    let gap : body - 2 - from ≡ 2 = omega arith in
    record {
      now = c;
      later = cs;
      is = refl;
      good = a.good;
      head = cc;
      before = omega arith;
      groups = ap (λ (k : ℕ). words (take k (drop from r))) gap ∙ ap (λ (k : ℕ). words (take 2 (drop k r))) one ∙ words_two r 3 (omega (arith, s.fits, s.long)) ∙ s.groups;
      least = omega (arith, s.long);
      most = omega (arith, s.long, a.good.few);
      fits = omega (arith, s.fits);
      long = omega (arith, s.long);
      numbers = ap (λ (k : ℕ). words (take k (drop body r))) cut ∙ ap (λ (k : ℕ). words (take (len r - 4) (drop k r))) two ∙ ap words s.part ∙ words_bytes c.body;
      next = simp same a.walk;
    }

-- what a walk gives is what a turn is about, and it goes on behind it
pub record Given (v g : ℕ) (w new : Clauses) (c : Part) (cs : List Clause) : Type 0 where
  pub turn : Turn v g w.rest.now cs 3 c.head 7 (size w.rest.now)
  pub is : clause_is c ≡ turn.now
  pub groups : c.groups.now ≡ take 2 (drop 3 w.rest.now)
  pub body : c.body.now ≡ take (size w.rest.now - 7) (drop 7 w.rest.now)
  pub goes : Walk v g new.rest.now turn.later

pub walk_gives : (v g : ℕ) (w new : Clauses) (c : Part) (cs : List Clause) → Walk v g w.rest.now cs → GivesFirst w (Some c) new → Given v g w new c cs
walk_gives v g w new c [] k s = let e = sym (left_walk v g w.rest.now [] k).0 ∙ s.0 in let z : ◌≡◌ {A = ℕ} 0 1 = cc in absurd (omega arith)
walk_gives v g w new c (d ∷ cs) k s =
    let r = w.rest.now in
    let e : d ∷ cs ≡ clause_is c ∷ clauses_left new = sym (left_walk v g r (d ∷ cs) k).0 ∙ s.0 in
    let same : d ≡ clause_is c = cc in
    let h : d.head ≡ c.head = ap (λ (b : Clause). b.head) same in
    let t = walk_on v g r (d ∷ cs) 3 c.head 7 (size r) k ((ahead v g r d cs k).front ∙ ap (λ (n : ℕ). FrontV.Clause 3 n 7 (size r)) h) in
    let i = t.is in
    let first : d ≡ t.now = cc in
    record {
      turn = t;
      is = sym same ∙ first;
      groups = s.1.0;
      body = s.1.1;
      goes = subst (λ (rest : List ℕ). Walk v g rest t.later) (part_end r (size r) ∙ sym s.1.2) t.next;
    }
