-- Laws of tokens compared with words.
--   same_bytes      tokens are the same where each byte is
-- Assumes nothing.
use Prim.Native.Nat.{ℕ}
use mathlib.Core.Path.{◌≡◌, refl, ap}
use mathlib.Core.List.{List, [], ◌∷◌}
use mathlib.Core.Bool.{Bool, ◌&&◌}
use lib.Dec.{eqb}
use Rattle.std.specs.Cmp.Lexicographic.{pointwise}
use Rattle.text.specs.Lines.{same}

pub same_bytes : (a b : List ℕ) → pointwise eqb a b ≡ same a b
unfolding same
same_bytes [] [] = refl
same_bytes [] (y ∷ b) = refl
same_bytes (x ∷ a) [] = refl
same_bytes (x ∷ a) (y ∷ b) = ap (λ (t : Bool). eqb x y && t) (same_bytes a b)
