-- Laws of a round, and of the listing that rounds make.
--   found_is, yields_one     a seed yields `found`, and nothing else
--   found_explains, found_repairs      ... by whether it is inconsistent
--   found_shut, found_new    what is found shuts its seed out, and was not listed before
--   allowed_falls, seeds_fall      what is allowed after a round lies below its seed, and so does the next seed
--   found_right              what is found is right
--   all_listed               where nothing is allowed, every explanation and every repair is listed
--   listing_zero, listing_next, listing_still      a listing, by its first round
--   listing_keeps            what each round keeps holds of the listing
--   listing_more, listing_extends, listing_prefix      more rounds go on from fewer, and begin with what those wrote
--   listing_le, listing_full, listing_stops      each round writes one record, up to where no seed remains
--   listing_right, listing_once      every record is right, and none stands twice
--   listing_ends, ends       no seed remains after at most 2 ^ n rounds
--   complete_iff             complete exactly when every explanation and every repair is listed
--   complete_exactly         a complete listing begun empty holds exactly the explanations and the repairs, each once
-- Assumes nothing.
use mathlib.Core.Path.{◌≡◌, refl, sym, ap, ◌∙◌, subst}
use mathlib.Core.Logic.{◌↔◌, ◌⊎◌, inl, inr}
use mathlib.Core.Bool.{Bool, true, false, ◌&&◌}
use mathlib.Core.Option.{Option, some, none}
use mathlib.Core.List.Memᴰ
use mathlib.Core.List.{List, [], ◌∷◌, ◌++◌, append_assoc, append-nil, Memᴰ}
use Prim.Native.Nat.{ℕ, zero, suc, ◌+◌, ◌-◌, ◌^◌, ◌≤◌, ◌<◌}
use native.Mathlib.Nat.{zero-add, suc-add}
use native.Mathlib.Omega.{arith}
use native.Mathlib.Decide.{ℕ_discrete}
use lib.ListN.{length, length-append}
use lib.Pow.{pow_pos}
use Rattle.answer.proofs.Tests.{and_left, and_right, clash}
use Rattle.meaning.specs.Choice.{digit, Inside, Apart, complement}
use Rattle.meaning.specs.Explanation.{Repair}
use Rattle.rounds.specs.Records.{Record, explains, repairs, allows, allowed}
use Rattle.rounds.specs.Rounds.{seed, smallest, found, listing, complete, Monotone, Largest, Smallest}
use Rattle.rounds.specs.Right.{Fine, Right, AllRight, Once, IsSeed, Yields}
use Rattle.rounds.proofs.Digits.{digit_in, inside_refl, add_lt, inside_add, complement_lt, complement_twice, digit_complement, apart_inside, inside_apart, lt_or_ge, not_both}
use Rattle.rounds.proofs.Seeds.{explains_shuts, repairs_allows, repairs_shuts, allowed_at, allowed_snoc, shut_by, seed_is, seed_at, complete_none, none_complete}
use Rattle.rounds.proofs.Insertion.{smallest_one, smallest_found}
use Rattle.rounds.proofs.Tests.{explanation_bad, smallest_explains, least_all, needed_all, cross}

-- ---- what a seed yields
module _ (n : ℕ) (bad : ℕ → Bool) (s : ℕ) where
  pub found_is : Yields n bad s (found n bad s)
  unfolding found
  found_is = go (bad s) refl
    where
      go : (b : Bool) → bad s ≡ b → Yields n bad s (elim b [ true ↦ explains (smallest bad s) | false ↦ repairs (complement n s) ])
      go true e = (e, smallest_found bad s e)
      go false e = (e, refl)

  pub yields_one : (a b : Record) → Yields n bad s a → Yields n bad s b → a ≡ b
  yields_one (explains x) (explains y) A B = ap explains (smallest_one bad s x y A.1 B.1)
  yields_one (explains x) (repairs y) A B = absurd (clash (bad s) A.0 B.0)
  yields_one (repairs x) (explains y) A B = absurd (clash (bad s) B.0 A.0)
  yields_one (repairs x) (repairs y) A B = ap repairs (A.1 ∙ sym B.1)

  pub found_explains : (e : ℕ) → bad s ≡ true → Smallest bad s e → explains e ≡ found n bad s
  found_explains e b S = yields_one (explains e) (found n bad s) (b, S) found_is

  pub found_repairs : bad s ≡ false → repairs (complement n s) ≡ found n bad s
  found_repairs b = yields_one (repairs (complement n s)) (found n bad s) (b, refl) found_is

  pub found_shut : s < 2 ^ n → allows (found n bad s) s ≡ false
  found_shut h = go (found n bad s) found_is
    where
      go : (r : Record) → Yields n bad s r → allows r s ≡ false
      go (explains e) Y = (explains_shuts e s).1 Y.1.inside
      go (repairs r) Y = (repairs_shuts r s).1 (subst (λ (z : ℕ). Apart z s) (sym Y.1) (inside_apart n (complement n s) s (complement_lt n s) h (inside_refl (complement n s))))

module _ (n : ℕ) (bad : ℕ → Bool) (rs : List Record) where
  pub found_new : (s : ℕ) → IsSeed n rs s → Memᴰ (found n bad s) rs → ⊥
  found_new s S m = clash (allows (found n bad s) s) (allowed_at rs s (found n bad s) S.1 m) (found_shut n bad s S.0)

  falls : (s z : ℕ) → IsSeed n rs s → z < 2 ^ n → allowed (rs ++ (found n bad s ∷ [])) z ≡ true → z < s
  falls s z S h a = go (lt_or_ge z s) (ℕ_discrete s z)
    where
      both : (allowed rs z && allows (found n bad s) z) ≡ true
      both = sym (allowed_snoc rs (found n bad s) z) ∙ a

      go : (z < s) ⊎ (s ≤ z) → Dec (s ≡ z) → z < s
      go (inl l) c = l
      go (inr l) (yes e) =
          absurd (clash (allows (found n bad s) s) (subst (λ (y : ℕ). allows (found n bad s) y ≡ true) (sym e) (and_right (allowed rs z) (allows (found n bad s) z) both)) (found_shut n bad s S.0))
      go (inr l) (no o) = absurd (clash (allowed rs z) (and_left (allowed rs z) (allows (found n bad s) z) both) (S.2 z (omega arith) h))

  pub allowed_falls : (s z : ℕ) → seed n rs ≡ some s → z < 2 ^ n → allowed (rs ++ (found n bad s ∷ [])) z ≡ true → z < s
  allowed_falls s z e = falls s z (seed_at n rs (some s) e)

  pub seeds_fall : (s t : ℕ) → IsSeed n rs s → IsSeed n (rs ++ (found n bad s ∷ [])) t → t < s
  seeds_fall s t S U = falls s t S U.0 U.1

  -- ---- right records
  module _ (mono : Monotone n bad) (A : AllRight n bad rs) where
    -- the complement of a consistent seed is a repair
    seed_repairs : (s : ℕ) → IsSeed n rs s → bad s ≡ false → Repair n (Fine bad) (complement n s)
    seed_repairs s S b =
        record {
          within = complement_lt n s;
          mends = rw (complement_twice n s S.0) b;
          needed = λ g d e. clash (bad (s + 2 ^ g)) (go g d) (ap (λ (z : ℕ). bad (z + 2 ^ g)) (sym (complement_twice n s S.0)) ∙ e);
        }
      where
        broken : (g : ℕ) → g < n → digit s g ≡ 0 → (w : (r : Record) × (Memᴰ r rs × (allows r (s + 2 ^ g) ≡ false))) → bad (s + 2 ^ g) ≡ true
        broken g l z w = pick w.0 w.1.0 w.1.1
          where
            pick : (r : Record) → Memᴰ r rs → allows r (s + 2 ^ g) ≡ false → bad (s + 2 ^ g) ≡ true
            pick (explains e) m o = mono e (s + 2 ^ g) (add_lt n s g S.0 l z) ((explains_shuts e (s + 2 ^ g)).0 o) (explanation_bad n bad e (A (explains e) m))
            pick (repairs r) m o =
                let a : Apart r s = λ k. omega (arith, (repairs_shuts r (s + 2 ^ g)).0 o k, inside_add s g z k) in
                absurd (not_both r s a ((repairs_allows r s).0 (allowed_at rs s (repairs r) S.1 m)))

        go : (g : ℕ) → digit (complement n s) g ≡ 1 → bad (s + 2 ^ g) ≡ true
        go g d =
            let l : g < n = digit_in n (complement n s) g (complement_lt n s) d in
            let z : digit s g ≡ 0 = omega (arith, digit_complement n s g S.0 l) in
            broken g l z (shut_by rs (s + 2 ^ g) (S.2 (s + 2 ^ g) (omega (arith, pow_pos g)) (add_lt n s g S.0 l z)))

    pub found_right : (s : ℕ) → IsSeed n rs s → Right n bad (found n bad s)
    found_right s S = go (found n bad s) (found_is n bad s)
      where
        go : (r : Record) → Yields n bad s r → Right n bad r
        go (explains e) Y = smallest_explains n bad s e S.0 Y.1
        go (repairs r) Y = subst (Repair n (Fine bad)) (sym Y.1) (seed_repairs s S Y.0)

    pub all_listed : seed n rs ≡ none → (r : Record) → Right n bad r → Memᴰ r rs
    all_listed e (explains x) E = pick w.0 w.1.0 w.1.1
      where
        w : (r : Record) × (Memᴰ r rs × (allows r x ≡ false))
        w = shut_by rs x (seed_at n rs none e x E.within)

        pick : (r : Record) → Memᴰ r rs → allows r x ≡ false → Memᴰ (explains x) rs
        pick (explains y) m o = Memᴰ.cast (ap explains (sym (least_all n bad mono x y E ((explains_shuts y x).0 o) (explanation_bad n bad y (A (explains y) m))))) m
        pick (repairs y) m o = absurd (not_both y x ((repairs_shuts y x).0 o) (let c = cross n bad mono x y E (A (repairs y) m) in (c.0, (c.1.1, c.1.0))))
    all_listed e (repairs x) R = pick w.0 w.1.0 w.1.1
      where
        rest : ℕ
        rest = complement n x

        w : (r : Record) × (Memᴰ r rs × (allows r (complement n x) ≡ false))
        w = shut_by rs rest (seed_at n rs none e rest (complement_lt n x))

        pick : (r : Record) → Memᴰ r rs → allows r (complement n x) ≡ false → Memᴰ (repairs x) rs
        pick (explains y) m o = absurd (clash (bad rest) (mono y rest (complement_lt n x) ((explains_shuts y rest).0 o) (explanation_bad n bad y (A (explains y) m))) R.mends)
        pick (repairs y) m o =
            let s : Inside y x = subst (λ (z : ℕ). Inside y z) (complement_twice n x R.within) (apart_inside n y rest (A (repairs y) m).within (complement_lt n x) ((repairs_shuts y rest).0 o)) in
            Memᴰ.cast (ap repairs (sym (needed_all n bad mono x y R s (A (repairs y) m).mends))) m

-- ---- one record more
snoc_right : (n : ℕ) (bad : ℕ → Bool) (rs : List Record) (q : Record) → AllRight n bad rs → Right n bad q → AllRight n bad (rs ++ (q ∷ []))
snoc_right n bad rs q A R r m = go (Memᴰ.append_cases rs m)
  where
    go : Memᴰ r rs ⊎ Memᴰ r (q ∷ []) → Right n bad r
    go (inl k) = A r k
    go (inr k) = subst (Right n bad) (sym (Memᴰ.eq_of_singleton k)) R

snoc_once : (rs : List Record) (q : Record) → Once rs → (Memᴰ q rs → ⊥) → Once (rs ++ (q ∷ []))
snoc_once [] q O f = (λ m. Memᴰ.not-nil m, tt)
snoc_once (r ∷ rs) q O f = (λ m. go (Memᴰ.append_cases rs m), snoc_once rs q O.1 (λ m. f (Memᴰ.tail m)))
  where
    go : Memᴰ r rs ⊎ Memᴰ r (q ∷ []) → ⊥
    go (inl k) = O.0 k
    go (inr k) = f (Memᴰ.head (sym (Memᴰ.eq_of_singleton k)))

-- ---- the listing
module _ (n : ℕ) (bad : ℕ → Bool) where
  -- one round, by the seed
  abbrev round : ℕ → List Record → Option ℕ → List Record
  round k rs o = elim o as (λ _. List Record) [ none ↦ rs | some s ↦ listing n bad k (rs ++ (found n bad s ∷ [])) ]

  pub listing_zero : (rs : List Record) → listing n bad 0 rs ≡ rs
  unfolding listing
  listing_zero rs = refl

  pub listing_still : (k : ℕ) (rs : List Record) → seed n rs ≡ none → listing n bad k rs ≡ rs
  unfolding listing
  listing_still zero rs e = refl
  listing_still (suc k) rs e = ap (round k rs) e

  pub listing_next : (k : ℕ) (rs : List Record) (s : ℕ) → 0 < k → seed n rs ≡ some s → listing n bad k rs ≡ listing n bad (k - 1) (rs ++ (found n bad s ∷ []))
  unfolding listing
  listing_next k rs s h e = ap (λ (j : ℕ). listing n bad j rs) (let q : k ≡ suc (k - 1) = omega arith in q) ∙ ap (round (k - 1) rs) e

  pub listing_keeps : (P : List Record → Type 0) → ((rs : List Record) (s : ℕ) → IsSeed n rs s → P rs → P (rs ++ (found n bad s ∷ []))) → (k : ℕ) (rs : List Record) → P rs → P (listing n bad k rs)
  unfolding listing
  listing_keeps P step zero rs p = p
  listing_keeps P step (suc k) rs p = go (seed n rs) (seed_is n rs) (λ s S. listing_keeps P step k (rs ++ (found n bad s ∷ [])) (step rs s S p))
    where
      go : (o : Option ℕ) → Largest (allowed rs) (2 ^ n) o → ((s : ℕ) → IsSeed n rs s → P (listing n bad k (rs ++ (found n bad s ∷ [])))) → P (round k rs o)
      go none t ih = p
      go (some s) t ih = ih s t

  -- more rounds
  pub listing_more : (j k : ℕ) (rs : List Record) → listing n bad (j + k) rs ≡ listing n bad k (listing n bad j rs)
  unfolding listing
  listing_more zero k rs = ap (λ (m : ℕ). listing n bad m rs) (zero-add k)
  listing_more (suc j) k rs = ap (λ (m : ℕ). listing n bad m rs) (suc-add j k) ∙ go (seed n rs) refl (λ r. listing_more j k (rs ++ (r ∷ [])))
    where
      go : (o : Option ℕ) → seed n rs ≡ o → ((r : Record) → listing n bad (j + k) (rs ++ (r ∷ [])) ≡ listing n bad k (listing n bad j (rs ++ (r ∷ []))))
          → round (j + k) rs o ≡ listing n bad k (round j rs o)
      go none e ih = sym (listing_still k rs e)
      go (some s) e ih = ih (found n bad s)

  pub listing_extends : (k : ℕ) (rs : List Record) → (t : List Record) × (listing n bad k rs ≡ rs ++ t)
  listing_extends k rs =
      listing_keeps (λ xs. (t : List Record) × (xs ≡ rs ++ t))
      (λ xs s S p. (p.0 ++ (found n bad s ∷ []), ap (λ (l : List Record). l ++ (found n bad s ∷ [])) p.1 ∙ append_assoc rs p.0 (found n bad s ∷ []))) k rs ([], sym (append-nil rs))

  pub listing_prefix : (j k : ℕ) (rs : List Record) → (t : List Record) × (listing n bad (j + k) rs ≡ listing n bad j rs ++ t)
  listing_prefix j k rs = let w = listing_extends k (listing n bad j rs) in (w.0, listing_more j k rs ∙ w.1)

  -- how many records
  one_more : (rs : List Record) (r : Record) → length (rs ++ (r ∷ [])) ≡ length rs + 1
  one_more rs r = length-append rs (r ∷ [])

  pub listing_full : (k : ℕ) (rs : List Record) → (length (listing n bad k rs) ≡ length rs + k) ⊎ (seed n (listing n bad k rs) ≡ none)
  unfolding listing
  listing_full zero rs = inl (omega arith)
  listing_full (suc k) rs = go (seed n rs) refl (λ r. listing_full k (rs ++ (r ∷ [])))
    where
      go : (o : Option ℕ) → seed n rs ≡ o
          → ((r : Record) → (length (listing n bad k (rs ++ (r ∷ []))) ≡ length (rs ++ (r ∷ [])) + k) ⊎ (seed n (listing n bad k (rs ++ (r ∷ []))) ≡ none))
          → (length (round k rs o) ≡ length rs + suc k) ⊎ (seed n (round k rs o) ≡ none)
      go none e ih = inr e
      go (some s) e ih = pick (ih (found n bad s))
        where
          pick : (length (listing n bad k (rs ++ (found n bad s ∷ []))) ≡ length (rs ++ (found n bad s ∷ [])) + k) ⊎ (seed n (listing n bad k (rs ++ (found n bad s ∷ []))) ≡ none)
              → (length (listing n bad k (rs ++ (found n bad s ∷ []))) ≡ length rs + suc k) ⊎ (seed n (listing n bad k (rs ++ (found n bad s ∷ []))) ≡ none)
          pick (inl q) = inl (omega (arith, q, one_more rs (found n bad s)))
          pick (inr q) = inr q

  pub listing_le : (k : ℕ) (rs : List Record) → length (listing n bad k rs) ≤ length rs + k
  unfolding listing
  listing_le zero rs = omega arith
  listing_le (suc k) rs = go (seed n rs) (λ r. listing_le k (rs ++ (r ∷ [])))
    where
      go : (o : Option ℕ) → ((r : Record) → length (listing n bad k (rs ++ (r ∷ []))) ≤ length (rs ++ (r ∷ [])) + k) → length (round k rs o) ≤ length rs + suc k
      go none ih = omega arith
      go (some s) ih = omega (arith, ih (found n bad s), one_more rs (found n bad s))

  pub listing_stops : (k : ℕ) (rs : List Record) → length (listing n bad k rs) < length rs + k → seed n (listing n bad k rs) ≡ none
  listing_stops k rs l = go (listing_full k rs)
    where
      go : (length (listing n bad k rs) ≡ length rs + k) ⊎ (seed n (listing n bad k rs) ≡ none) → seed n (listing n bad k rs) ≡ none
      go (inr e) = e
      go (inl e) = absurd (omega (arith, e, l))

  pub listing_once : (k : ℕ) (rs : List Record) → Once rs → Once (listing n bad k rs)
  listing_once k rs A = listing_keeps Once (λ xs s S O. snoc_once xs (found n bad s) O (found_new n bad xs s S)) k rs A

  -- as many rounds as the seed's number, and one
  pub listing_ends : (k : ℕ) (rs : List Record) → ((s : ℕ) → IsSeed n rs s → s < k) → seed n (listing n bad k rs) ≡ none
  unfolding listing
  listing_ends zero rs f = go (seed n rs) refl (seed_is n rs)
    where
      go : (o : Option ℕ) → seed n rs ≡ o → Largest (allowed rs) (2 ^ n) o → seed n rs ≡ none
      go none e t = e
      go (some s) e t = absurd (omega (arith, f s t))
  listing_ends (suc k) rs f = go (seed n rs) refl (seed_is n rs) (λ s g. listing_ends k (rs ++ (found n bad s ∷ [])) g)
    where
      go : (o : Option ℕ) → seed n rs ≡ o → Largest (allowed rs) (2 ^ n) o
          → ((s : ℕ) → ((t : ℕ) → IsSeed n (rs ++ (found n bad s ∷ [])) t → t < k) → seed n (listing n bad k (rs ++ (found n bad s ∷ []))) ≡ none)
          → seed n (round k rs o) ≡ none
      go none e t ih = e
      go (some s) e t ih = ih s (λ u U. omega (arith, seeds_fall n bad rs s u t U, f s t))

  pub ends : (k : ℕ) (rs : List Record) → 2 ^ n ≤ k → seed n (listing n bad k rs) ≡ none
  ends k rs h = listing_ends k rs (λ s S. omega (arith, S.0))

  module _ (mono : Monotone n bad) where
    pub listing_right : (k : ℕ) (rs : List Record) → AllRight n bad rs → AllRight n bad (listing n bad k rs)
    listing_right k rs A = listing_keeps (AllRight n bad) (λ xs s S B. snoc_right n bad xs (found n bad s) B (found_right n bad xs mono B s S)) k rs A

    pub complete_iff : (rs : List Record) → AllRight n bad rs → (complete n rs ≡ true) ↔ ((r : Record) → Right n bad r → Memᴰ r rs)
    complete_iff rs A = ((λ e. all_listed n bad rs mono A (none_complete n rs e)), (λ w. complete_none n rs (go w (seed n rs) refl (seed_is n rs))))
      where
        go : ((r : Record) → Right n bad r → Memᴰ r rs) → (o : Option ℕ) → seed n rs ≡ o → Largest (allowed rs) (2 ^ n) o → seed n rs ≡ none
        go w none e t = e
        go w (some s) e t = absurd (found_new n bad rs s t (w (found n bad s) (found_right n bad rs mono A s t)))

    pub complete_exactly : (k : ℕ) → complete n (listing n bad k []) ≡ true → ((r : Record) → Memᴰ r (listing n bad k []) ↔ Right n bad r) × Once (listing n bad k [])
    complete_exactly k e =
        let A : AllRight n bad (listing n bad k []) = listing_right k [] (λ r m. absurd (Memᴰ.not-nil m)) in
        ((λ r. (A r, (complete_iff (listing n bad k []) A).0 e r)), listing_once k [] tt)
