-- Numbers kept, up to 33, against all of them gathered.
--   inserted_by              what holds of numbers with n put in, unless there are enough
--   inserted_more            they are not fewer then
--   kept_append              one run of numbers after another
--   kept_few, kept_many      where at most 32 are gathered, these are kept; else 33 are
--   kept_rising, kept_most   what is kept of literals rises, and is at most 33
--   kept_body, kept_test     it is the body where that is not too long; and too long where that is
-- Assumes nothing.
use Prim.Native.Nat.{ℕ, ◌≤◌, ◌<◌}
use mathlib.Core.Path.{◌≡◌, refl, ap, ◌∙◌}
use mathlib.Core.List.{List, [], ◌∷◌, ◌++◌, Memᴰ}
use mathlib.Core.Bool.{Bool, true, false, cond}
use native.Mathlib.Omega.{arith}
use lib.IntN.{ℤ}
use lib.ListN.{length}
use lib.Dec.{ltb, eqb}
use borrow.Author.Tests.{eqb-true, eqb-false, ltb-true, ltb-false, lt-ltb, le-ltb}
use Rattle.field.specs.Words.{rising}
use Rattle.book.specs.Bytes.{most_body}
use Rattle.text.specs.Taking.{bodies, insert, gather, body_in}
use Rattle.text.proofs.Gathering.{insert_rising, insert_more, insert_most, gather_more, bodies_some}
use Rattle.clause_line.specs.Steps.{enough, inserted_of, kept, kept_of}
use Rattle.clause_line.proofs.Places.{inserted_full}

module _ (ws : List ℕ) (n : ℕ) (P : List ℕ → Type 0) (full : length ws ≡ enough → P ws) (more : (length ws ≡ enough → ⊥) → P (insert n ws)) where
  pub inserted_by : P (inserted_of ws n)
  unfolding inserted_of
  inserted_by = go (eqb (length ws) enough) (eqb-true (length ws) enough) (eqb-false (length ws) enough)
    where
      go : (b : Bool) → (b ≡ true → length ws ≡ enough) → (b ≡ false → length ws ≡ enough → ⊥) → P (cond b ws (insert n ws))
      go true y x = full (y refl)
      go false y x = more (x refl)

pub inserted_more : (ws : List ℕ) (n : ℕ) → length ws ≤ length (inserted_of ws n)
inserted_more ws n = inserted_by ws n (λ us. length ws ≤ length us) (λ e. omega arith) (λ e. insert_more n ws)

pub kept_append : (ws ns ms : List ℕ) → kept ws (ns ++ ms) ≡ kept (kept ws ns) ms
unfolding kept
kept_append ws [] ms = refl
kept_append ws (n ∷ ns) ms = kept_append (inserted_of ws n) ns ms

kept_full : (ws ns : List ℕ) → length ws ≡ enough → kept ws ns ≡ ws
unfolding kept
kept_full ws [] e = refl
kept_full ws (n ∷ ns) e = ap (λ (us : List ℕ). kept us ns) (inserted_full ws n e) ∙ kept_full ws ns e

pub kept_few : (ws ns : List ℕ) → length (gather ws ns) ≤ most_body → kept ws ns ≡ gather ws ns
unfolding kept gather
kept_few ws [] h = refl
kept_few ws (n ∷ ns) h =
    let l : length ws ≤ most_body = omega (arith, insert_more n ws, gather_more (insert n ws) ns) in
    inserted_by ws n (λ us. kept us ns ≡ gather (insert n ws) ns) (λ e. absurd (omega arith)) (λ e. kept_few (insert n ws) ns h)

pub kept_many : (ws ns : List ℕ) → length ws ≤ enough → most_body < length (gather ws ns) → length (kept ws ns) ≡ enough
unfolding kept gather
kept_many ws [] l h = omega arith
kept_many ws (n ∷ ns) l h =
    inserted_by ws n (λ us. length (kept us ns) ≡ enough) (λ e. ap length (kept_full ws ns e) ∙ e)
    (λ e. kept_many (insert n ws) ns (omega (arith, insert_most n ws)) h)

rises : (ws ns : List ℕ) → ((x : ℕ) → Memᴰ x ns → 0 < x) → rising 0 ws ≡ true → rising 0 (kept ws ns) ≡ true
unfolding kept
rises ws [] h e = e
rises ws (n ∷ ns) h e =
    rises (inserted_of ws n) ns (λ x k. h x (Memᴰ.tail k))
    (inserted_by ws n (λ us. rising 0 us ≡ true) (λ q. e) (λ q. insert_rising n 0 ws (h n (Memᴰ.head refl)) e))

most : (ws ns : List ℕ) → length ws ≤ enough → length (kept ws ns) ≤ enough
unfolding kept
most ws [] h = h
most ws (n ∷ ns) h = most (inserted_of ws n) ns (inserted_by ws n (λ us. length us ≤ enough) (λ q. h) (λ q. omega (arith, insert_most n ws)))

module _ (zs : List ℤ) where
  pub kept_rising : rising 0 (kept_of zs) ≡ true
  unfolding rising
  kept_rising = rises [] (bodies zs) (bodies_some zs) refl

  pub kept_most : length (kept_of zs) ≤ enough
  kept_most = most [] (bodies zs) (omega arith)

  pub kept_body : length (body_in zs) ≤ most_body → kept_of zs ≡ body_in zs
  kept_body h = kept_few [] (bodies zs) h

  pub kept_test : ltb most_body (length (kept_of zs)) ≡ ltb most_body (length (body_in zs))
  kept_test = go (ltb most_body (length (body_in zs))) refl
    where
      go : (b : Bool) → ltb most_body (length (body_in zs)) ≡ b → ltb most_body (length (kept_of zs)) ≡ b
      go false e =
          let l = ltb-false most_body (length (body_in zs)) e in
          le-ltb most_body (length (kept_of zs)) (omega (arith, l, ap length (kept_few [] (bodies zs) l)))
      go true e =
          lt-ltb most_body (length (kept_of zs)) (omega (arith, kept_many [] (bodies zs) (omega arith) (ltb-true most_body (length (body_in zs)) e)))
