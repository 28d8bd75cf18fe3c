-- A number that is to be from low to high.
--   number_in, number_out      that number or the refusal, by its limits
--   between_low, between_high, between_minus      what is not within them, by its sign
-- Assumes nothing.
use Prim.Native.Nat.{ℕ, ◌≤◌, ◌<◌}
use mathlib.Core.Path.{◌≡◌}
use mathlib.Core.Bool.{false}
use lib.IntN.{ℤ}
use borrow.Author.Tests.{le-leb, lt-leb}
use Rattle.answer.specs.Answer.{answered, refused, first, unless}
use Rattle.signed.specs.Signed.{signed_of}
use Rattle.signed.specs.declared.Signed.TheVariants as SignedV
use Rattle.signed.proofs.Split.{is_plus, is_minus_lem}
use Rattle.plain.specs.Taking.{between, number_at}

module _ (low high : ℕ) (x : ℤ) where
  pub number_in : (i n : ℕ) → signed_of x ≡ SignedV.Plus n → low ≤ n → n ≤ high → answered n ≡ number_at low high i x
  unfolding number_at between first unless
  number_in i n e l h = simp (is_plus x n e, le-leb low n l, le-leb n high h)

  pub number_out : (i : ℕ) → between low high x ≡ false → refused 7 i ≡ number_at low high i x
  unfolding number_at first unless
  number_out i e = simp e

  module _ (n : ℕ) where
    pub between_low : signed_of x ≡ SignedV.Plus n → n < low → between low high x ≡ false
    unfolding between
    between_low e h = simp (is_plus x n e, lt-leb low n h)

    pub between_high : signed_of x ≡ SignedV.Plus n → low ≤ n → high < n → between low high x ≡ false
    unfolding between
    between_high e l h = simp (is_plus x n e, le-leb low n l, lt-leb n high h)

    pub between_minus : signed_of x ≡ SignedV.Minus n → between low high x ≡ false
    unfolding between
    between_minus e = simp (is_minus_lem x n e).1
