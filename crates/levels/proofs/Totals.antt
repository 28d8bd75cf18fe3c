-- The sum of the levels: a turn lowers it or changes nothing.
--   total_set              one level changed
--   total_le               words of 16 bits add up to a number of 32
--   turns_or               turns change nothing, or lower the sum
--   length_turn            how many levels there are stays
-- Assumes nothing.
use Prim.Native.Nat.{ℕ, zero, suc, ◌+◌, ◌*◌, ◌≤◌, ◌<◌, min}
use mathlib.Core.Path.{◌≡◌, refl, ap, ◌∙◌}
use mathlib.Core.Logic.{◌⊎◌, inl, inr}
use mathlib.Core.List.{List, [], ◌∷◌}
use native.Mathlib.Omega.{arith}
use lib.ListN.{length, get_or, set, length-set}
use lib.Seq.{set_out, set-get_or}
use Rattle.meaning.specs.Book.{Clause}
use Rattle.rounds.proofs.Digits.{lt_or_ge}
use Rattle.levels.specs.Levels.{clause_level, lower, turn, turns, total}

pub total_set : (f : List ℕ) (h l : ℕ) → h < length f → total (set f h l) + get_or f h 0 ≡ total f + l
unfolding total
total_set [] h l k = absurd (omega arith)
total_set (m ∷ f) zero l k = omega arith
total_set (m ∷ f) (suc h) l k = omega (arith, total_set f h l (omega arith))

pub total_le : (f : List ℕ) → ((i : ℕ) → get_or f i 0 < 65536) → total f ≤ 65535 * length f
unfolding total
total_le [] h = omega arith
total_le (m ∷ f) h = omega (arith, h 0, total_le f (λ i. h (suc i)))

length_lower : (f : List ℕ) (h l : ℕ) → length (lower f h l) ≡ length f
unfolding lower
length_lower f zero l = refl
length_lower f (suc h) l = length-set f h _

lower_or : (f : List ℕ) (h l : ℕ) → (lower f h l ≡ f) ⊎ (total (lower f h l) < total f)
unfolding lower
lower_or f zero l = inl refl
lower_or f (suc h) l = go (lt_or_ge h (length f)) (lt_or_ge l (get_or f h 0))
  where
    go : (h < length f) ⊎ (length f ≤ h) → (l < get_or f h 0) ⊎ (get_or f h 0 ≤ l) → (set f h (min (get_or f h 0) l) ≡ f) ⊎ (total (set f h (min (get_or f h 0) l)) < total f)
    go (inr k) w = inl (set_out f h _ k)
    go (inl k) (inl w) = inr (omega (arith, total_set f h (min (get_or f h 0) l) k))
    go (inl k) (inr w) = inl (ap (set f h) (let e : min (get_or f h 0) l ≡ get_or f h 0 = omega arith in e) ∙ set-get_or f h 0)

pub length_turn : (kept pool : ℕ) (c : Clause) (f : List ℕ) → length (turn kept pool c f) ≡ length f
length_turn kept pool c f = length_lower f c.head (clause_level kept pool f c)

pub turns_or : (kept pool : ℕ) (cs : List Clause) (f : List ℕ) → (turns kept pool cs f ≡ f) ⊎ (total (turns kept pool cs f) < total f)
unfolding turns
turns_or kept pool [] f = inl refl
turns_or kept pool (c ∷ cs) f = go (lower_or f c.head (clause_level kept pool f c)) (turns_or kept pool cs f) (turns_or kept pool cs (turn kept pool c f))
  where
    go : (turn kept pool c f ≡ f) ⊎ (total (turn kept pool c f) < total f) → (turns kept pool cs f ≡ f) ⊎ (total (turns kept pool cs f) < total f)
        → (turns kept pool cs (turn kept pool c f) ≡ turn kept pool c f) ⊎ (total (turns kept pool cs (turn kept pool c f)) < total (turn kept pool c f))
        → (turns kept pool cs (turn kept pool c f) ≡ f) ⊎ (total (turns kept pool cs (turn kept pool c f)) < total f)
    go (inl e) (inl q) r = inl (ap (turns kept pool cs) e ∙ q)
    go (inl e) (inr q) r = inr (omega (arith, q, ap (λ (z : List ℕ). total (turns kept pool cs z)) e))
    go (inr l) q (inl r) = inr (omega (arith, l, ap total r))
    go (inr l) q (inr r) = inr (omega arith)
