-- Records of a listing, and the choices that they leave.
--   Record          an explanation or a repair that is listed
--   inside x y      whether every group of x is in y
--   meets x y       whether some group is in both
--   allows r x      the choice x does not contain the explanation, or shares a group with the repair
--   allowed rs x    each of the records allows it: it contains no listed explanation and shares a group with every listed repair
-- Assumes nothing: these are definitions.
use Rattle.std.specs.Prelude.{ℕ, List, [], ◌∷◌, Bool, true, not, ◌&&◌, eqb}
use Rattle.std.specs.Int.Bits.{bit_and}

pub data Record : Type 0 where
  explains repairs : ℕ → Record

abbrev pub inside : ℕ → ℕ → Bool
inside x y = eqb (bit_and x y) x

abbrev pub meets : ℕ → ℕ → Bool
meets x y = not (eqb (bit_and x y) 0)

unfoldable pub allows : Record → ℕ → Bool
allows (explains e) x = not (inside e x)
allows (repairs r) x = meets r x

unfoldable pub allowed : List Record → ℕ → Bool
allowed [] x = true
allowed (r ∷ rs) x = allows r x && allowed rs x
