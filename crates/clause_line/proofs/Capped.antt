-- Literals as far as two bytes hold them: with fewer variables and groups than 65,535 the same is wrong with them, and where nothing is wrong they are the same.
--   heads_minus, bodies_minus      a negative literal among others
--   capped_minus             ... as far as two bytes hold it
--   cap_some                 a number that is not 0 stays so
--   cap_same                 a number below 65,535 is held
--   cap_far                  a number is above a limit where what is held of it is
--   capped_within            literals within the variables are held
--   found_tests_lem              what is found to be wrong is what is wrong
--   capped_right, group_right, kept_right      where nothing is wrong, the literals and the group are held, and the body is what is kept
-- Assumes nothing.
use Prim.Native.Nat.{ℕ, zero, suc, ◌≤◌, ◌<◌}
use mathlib.Core.Path.{◌≡◌, refl, ap, ◌∙◌}
use mathlib.Core.List.{List, [], ◌∷◌, map}
use mathlib.Core.Bool.{Bool, true, false, not, ◌||◌, cond}
use native.Mathlib.Omega.{arith}
use lib.IntN.{ℤ, pos, negsuc}
use lib.ListN.{length}
use lib.Dec.{ltb, leb, eqb}
use borrow.Author.Tests.{ltb-true, ltb-false, lt-ltb, le-ltb, le-leb, lt-leb, leb-true, leb-false}
use Rattle.answer.specs.Answer.{◌⇒◌, first}
use Rattle.field.specs.Words.{within}
use Rattle.field.proofs.Words.{within_cons}
use Rattle.book.specs.Bytes.{most_body}
use Rattle.plain.specs.Plain.{minus}
use Rattle.text.specs.Taking.{heads, bodies, head_in, each, body_in, clause_tests}
use Rattle.text.proofs.Good.{tests_right}
use Rattle.line.specs.Tokens.{cap}
use Rattle.clause_line.specs.Steps.{capped, kept_of, beyond, found_tests}
use Rattle.clause_line.proofs.Kept.{kept_body, kept_test}

-- ---- a negative literal
module _ (m : ℕ) (zs : List ℤ) where
  pub heads_minus : 1 ≤ m → heads (minus m ∷ zs) ≡ heads zs
  unfolding heads
  heads_minus h = go m h
    where
      go : (k : ℕ) → 1 ≤ k → heads (minus k ∷ zs) ≡ heads zs
      go zero l = absurd (omega arith)
      go (suc k) l = refl

  pub bodies_minus : 1 ≤ m → bodies (minus m ∷ zs) ≡ m ∷ bodies zs
  unfolding bodies
  bodies_minus h = go m h
    where
      go : (k : ℕ) → 1 ≤ k → bodies (minus k ∷ zs) ≡ k ∷ bodies zs
      go zero l = absurd (omega arith)
      go (suc k) l = refl

  pub capped_minus : 1 ≤ m → capped (minus m ∷ zs) ≡ minus (cap m) ∷ capped zs
  unfolding capped
  capped_minus h = go m h
    where
      go : (k : ℕ) → 1 ≤ k → capped (minus k ∷ zs) ≡ minus (cap k) ∷ capped zs
      go zero l = absurd (omega arith)
      go (suc k) l = refl

-- ---- a number
pub cap_some : (n : ℕ) → 1 ≤ n → 1 ≤ cap n
cap_some n h = omega arith

pub cap_same : (n : ℕ) → n < 65535 → cap n ≡ n
cap_same n h = omega arith

pub cap_far : (g n : ℕ) → g < 65535 → ltb g (cap n) ≡ ltb g n
cap_far g n h = go (ltb g n) refl
  where
    go : (b : Bool) → ltb g n ≡ b → ltb g (cap n) ≡ b
    go true e = lt-ltb g (cap n) (omega (arith, ltb-true g n e))
    go false e = le-ltb g (cap n) (omega (arith, ltb-false g n e))

cap_near : (v n : ℕ) → v < 65535 → leb (cap n) v ≡ leb n v
cap_near v n h = go (leb n v) refl
  where
    go : (b : Bool) → leb n v ≡ b → leb (cap n) v ≡ b
    go true e = le-leb (cap n) v (omega (arith, leb-true n v e))
    go false e = lt-leb (cap n) v (omega (arith, leb-false n v e))

cap_one : (n : ℕ) → leb 1 (cap n) ≡ leb 1 n
cap_one n = go (leb 1 n) refl
  where
    go : (b : Bool) → leb 1 n ≡ b → leb 1 (cap n) ≡ b
    go true e = le-leb 1 (cap n) (omega (arith, leb-true 1 n e))
    go false e = lt-leb 1 (cap n) (omega (arith, leb-false 1 n e))

-- ---- some literals
heads_capped : (zs : List ℤ) → heads (capped zs) ≡ map cap (heads zs)
unfolding heads capped
heads_capped [] = refl
heads_capped (pos n ∷ zs) = ap (λ (ns : List ℕ). cap n ∷ ns) (heads_capped zs)
heads_capped (negsuc n ∷ zs) = heads_minus (cap (suc n)) (capped zs) (omega arith) ∙ heads_capped zs

bodies_capped : (zs : List ℤ) → bodies (capped zs) ≡ map cap (bodies zs)
unfolding bodies capped
bodies_capped [] = refl
bodies_capped (pos n ∷ zs) = bodies_capped zs
bodies_capped (negsuc n ∷ zs) = bodies_minus (cap (suc n)) (capped zs) (omega arith) ∙ ap (λ (ns : List ℕ). cap (suc n) ∷ ns) (bodies_capped zs)

within_cap : (v : ℕ) (ns : List ℕ) → v < 65535 → within 1 v (map cap ns) ≡ within 1 v ns
unfolding within
within_cap v [] h = refl
within_cap v (n ∷ ns) h = simp (cap_one n, cap_near v n h, within_cap v ns h)

pub capped_within : (v : ℕ) (zs : List ℤ) → v < 65535 → within 1 v (heads zs) ≡ true → within 1 v (bodies zs) ≡ true → capped zs ≡ zs
unfolding heads bodies capped
capped_within v [] h p q = refl
capped_within v (pos n ∷ zs) h p q =
    let k = within_cons 1 v n (heads zs) p in
    ap (λ (m : ℕ). pos m ∷ capped zs) (cap_same n (omega (arith, k.1))) ∙ ap (λ (ys : List ℤ). pos n ∷ ys) (capped_within v zs h k.2 q)
capped_within v (negsuc n ∷ zs) h p q =
    let k = within_cons 1 v (suc n) (bodies zs) q in
    ap (λ (m : ℕ). minus m ∷ capped zs) (cap_same (suc n) (omega (arith, k.1))) ∙ ap (λ (ys : List ℤ). negsuc n ∷ ys) (capped_within v zs h p k.2)

-- 7 for any of three reasons
far : (x y z : Bool) (r r' : ℕ) → (y ≡ true → z ≡ true → r ≡ r') → cond (x || (not y || not z)) 7 r ≡ cond x 7 (cond (not y) 7 (cond (not z) 7 r'))
far true y z r r' e = refl
far false false z r r' e = refl
far false true false r r' e = refl
far false true true r r' e = e refl refl

module _ (v g left k : ℕ) (zs : List ℤ) (few_variables : v < 65535) (few_groups : g < 65535) where
  -- what is tested where nothing is far
  abbrev later : List ℤ → Bool → ℕ
  later ys long = first ((not (each (head_in ys) (heads ys)) ⇒ 20) ∷ (eqb left 0 ⇒ 6) ∷ (long ⇒ 5) ∷ [])

  pub found_tests_lem :
      first (found_tests (ltb g (cap k) || beyond v (capped zs)) (not (each (head_in (capped zs)) (heads (capped zs)))) left (length (kept_of (capped zs)))) ≡ first (clause_tests v g left k zs)
  unfolding first beyond
  found_tests_lem =
      let b : (ltb g (cap k) || beyond v (capped zs)) ≡ (ltb g k || (not (within 1 v (heads zs)) || not (within 1 v (bodies zs)))) =
      simp (cap_far g k few_groups, heads_capped zs, bodies_capped zs, within_cap v (heads zs) few_variables, within_cap v (bodies zs) few_variables) in
      ap (λ (t : Bool). cond t 7 (later (capped zs) (ltb most_body (length (kept_of (capped zs)))))) b
      ∙ far (ltb g k) (within 1 v (heads zs)) (within 1 v (bodies zs)) (later (capped zs) (ltb most_body (length (kept_of (capped zs))))) (later zs (ltb most_body (length (body_in zs))))
      (λ p q. ap (λ (ys : List ℤ). later ys (ltb most_body (length (kept_of ys)))) (capped_within v zs few_variables p q) ∙ ap (later zs) (kept_test zs))

  module _ (right : first (clause_tests v g left k zs) ≡ 0) where
    pub capped_right : capped zs ≡ zs
    capped_right = let r = tests_right v g left k zs right in capped_within v zs few_variables r.positive r.negative

    pub group_right : cap k ≡ k
    group_right = cap_same k (omega (arith, (tests_right v g left k zs right).group))

    pub kept_right : kept_of (capped zs) ≡ body_in zs
    kept_right = ap (λ (ys : List ℤ). kept_of ys) capped_right ∙ kept_body zs (tests_right v g left k zs right).few
