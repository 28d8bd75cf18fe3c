-- The order of a listing.
--   Ordered n bad rs         each record is what the seed of the records before it yields
--   listing_order            a listing begun in that order keeps it
--   ordered_none             no record yet
--   ordered_one              the order leaves one list of each length
-- Assumes nothing.
use mathlib.Core.Path.{◌≡◌, refl, sym, ap, ap₂, ◌∙◌, subst}
use mathlib.Core.Logic.{◌⊎◌, inl, inr}
use mathlib.Core.Bool.{Bool}
use mathlib.Core.Option.{some, some-injective}
use mathlib.Core.List.{List, [], ◌∷◌, ◌++◌, append_assoc, head-eq_of_cons-eq, tail-eq_of_cons-eq}
use Prim.Native.Nat.{ℕ, ◌^◌}
use native.Mathlib.Omega.{arith}
use lib.ListN.{length, length-append}
use Rattle.rounds.specs.Records.{Record, allowed}
use Rattle.rounds.specs.Rounds.{found, listing}
use Rattle.rounds.specs.Right.{IsSeed, Yields}
use Rattle.rounds.proofs.Seeds.{largest_one}
use Rattle.rounds.proofs.Rounds.{found_is, yields_one, listing_keeps}

abbrev pub Ordered : ℕ → (ℕ → Bool) → List Record → Type 0
Ordered n bad rs = (before : List Record) (r : Record) (after : List Record) → rs ≡ before ++ (r ∷ after) → (s : ℕ) × (IsSeed n before s × Yields n bad s r)

never_none : (before : List Record) (r : Record) (after : List Record) → [] ≡ before ++ (r ∷ after) → ⊥
never_none before r after e = omega (arith, ap length e, length-append before (r ∷ after))

pub ordered_none : (n : ℕ) (bad : ℕ → Bool) → Ordered n bad []
ordered_none n bad before r after e = absurd (never_none before r after e)

-- where one record is put behind some, a record is the last one or stands among them
abbrev Split : List Record → Record → List Record → Record → Type 0
Split xs q before r = ((xs ≡ before) × (q ≡ r)) ⊎ ((t : List Record) × (xs ≡ before ++ (r ∷ t)))

split : (xs : List Record) (q : Record) (before : List Record) (r : Record) (after : List Record) → xs ++ (q ∷ []) ≡ before ++ (r ∷ after) → Split xs q before r
split [] q [] r after e = inl (refl, head-eq_of_cons-eq e)
split [] q (b ∷ bs) r after e = absurd (never_none bs r after (tail-eq_of_cons-eq e))
split (x ∷ xs) q [] r after e = inr (xs, ap (λ (z : Record). z ∷ xs) (head-eq_of_cons-eq e))
split (x ∷ xs) q (b ∷ bs) r after e = go (head-eq_of_cons-eq e) (split xs q bs r after (tail-eq_of_cons-eq e))
  where
    go : x ≡ b → Split xs q bs r → Split (x ∷ xs) q (b ∷ bs) r
    go p (inl w) = inl (ap (λ (z : Record). z ∷ xs) p ∙ ap (λ (l : List Record). b ∷ l) w.0, w.1)
    go p (inr w) = inr (w.0, ap (λ (z : Record). z ∷ xs) p ∙ ap (λ (l : List Record). b ∷ l) w.1)

pub listing_order : (n : ℕ) (bad : ℕ → Bool) (k : ℕ) (rs : List Record) → Ordered n bad rs → Ordered n bad (listing n bad k rs)
listing_order n bad k rs O = listing_keeps n bad (Ordered n bad) (λ xs s S P before r after e. go xs s S P before r (split xs (found n bad s) before r after e)) k rs O
  where
    go : (xs : List Record) (s : ℕ) → IsSeed n xs s → Ordered n bad xs → (before : List Record) (r : Record) → Split xs (found n bad s) before r → (t : ℕ) × (IsSeed n before t × Yields n bad t r)
    go xs s S P before r (inl w) = (s, (subst (λ (l : List Record). IsSeed n l s) w.0 S, subst (Yields n bad s) w.1 (found_is n bad s)))
    go xs s S P before r (inr w) = P before r w.0 w.1

-- from the same records on, the order leaves one list of each length
ordered_after : (n : ℕ) (bad : ℕ → Bool) (rs xs ys : List Record) → Ordered n bad (rs ++ xs) → Ordered n bad (rs ++ ys) → length xs ≡ length ys → xs ≡ ys
ordered_after n bad rs [] [] P Q e = refl
ordered_after n bad rs [] (y ∷ ys) P Q e = absurd (omega arith)
ordered_after n bad rs (x ∷ xs) [] P Q e = absurd (omega arith)
ordered_after n bad rs (x ∷ xs) (y ∷ ys) P Q e =
    ap₂ (λ (z : Record) (l : List Record). z ∷ l) same
    (ordered_after n bad (rs ++ (x ∷ [])) xs ys (on x xs P) (on x ys (subst (λ (z : Record). Ordered n bad (rs ++ (z ∷ ys))) (sym same) Q)) (omega arith))
  where
    on : (z : Record) (zs : List Record) → Ordered n bad (rs ++ (z ∷ zs)) → Ordered n bad ((rs ++ (z ∷ [])) ++ zs)
    on z zs = subst (Ordered n bad) (sym (append_assoc rs (z ∷ []) zs))

    one : (v : (s : ℕ) × (IsSeed n rs s × Yields n bad s x)) (w : (s : ℕ) × (IsSeed n rs s × Yields n bad s y)) → x ≡ y
    one v w =
        let q : v.0 ≡ w.0 = some-injective v.0 w.0 (largest_one (allowed rs) (2 ^ n) (some v.0) (some w.0) v.1.0 w.1.0) in
        yields_one n bad w.0 x y (subst (λ (s : ℕ). Yields n bad s x) q v.1.1) w.1.1

    same : x ≡ y
    same = one (P rs x xs refl) (Q rs y ys refl)

pub ordered_one : (n : ℕ) (bad : ℕ → Bool) (xs ys : List Record) → Ordered n bad xs → Ordered n bad ys → length xs ≡ length ys → xs ≡ ys
ordered_one n bad = ordered_after n bad []
