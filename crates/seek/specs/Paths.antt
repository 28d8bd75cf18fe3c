-- What the seed search answers, and the path along the last seed.
-- Below the last seed, which every choice that fits is less than:
--   above x g              the groups of x above g
--   reason_of last g        what group g rests on along the last seed: itself where the seed has it, and else the groups of the seed above it
--   Along last n g why     so are the reasons of the groups from g on
--   Clear Fit last g       no choice that fits agrees with the last seed from group g on
--   Tries Fit last g r     r is the largest choice that fits; or no choice that fits contains the groups named or agrees with the last seed above g
-- What functions answer:
--   leaf_of rs held taken   where every group is decided: the choice, if the records leave it
--   Seeks Fit held r       r is the largest choice that fits and contains held; or groups that rule out all such choices
--   sought_is r             the seed that code's answer is
-- Assumes nothing: these are definitions.
use Rattle.std.specs.Prelude.{ℕ, suc, ◌*◌, ◌/◌, ◌^◌, ◌≤◌, ◌<◌, ◌≡◌, List, cond, eqb, get_or, Result, Ok, Err, Some, None}
use Rattle.std.specs.Prelude as std
use Rattle.std.proofs.Math.Option.{Option, some, none}
use Rattle.meaning.specs.Choice.{digit, Inside}
use Rattle.rounds.specs.Records.{Record, allowed}
use Rattle.path.specs.Paths.{Rules}

abbrev pub Seeks : (ℕ → Type 0) → ℕ → Result ℕ ℕ → Type 0
Seeks Fit held (Ok s) = Fit s × Inside held s × ((z : ℕ) → Fit z → Inside held z → z ≤ s)
Seeks Fit held (Err c) = Rules Fit held c

unfoldable pub sought_is : std.Option ℕ → Option ℕ
sought_is (Some s) = some s
sought_is None = none

unfoldable pub leaf_of : List Record → ℕ → ℕ → Result ℕ ℕ
leaf_of rs held taken = cond (allowed rs taken) (Ok taken) (Err held)

abbrev pub above : ℕ → ℕ → ℕ
above x g = x / 2 ^ suc g * 2 ^ suc g

unfoldable pub reason_of : ℕ → ℕ → ℕ
reason_of last g = cond (eqb (digit last g) 1) (2 ^ g) (above last g)

abbrev pub Along : ℕ → ℕ → ℕ → List ℕ → Type 0
Along last n g why = (j : ℕ) → g ≤ j → j < n → get_or why j 0 ≡ reason_of last j

abbrev pub Clear : (ℕ → Type 0) → ℕ → ℕ → Type 0
Clear Fit last g = (z : ℕ) → Fit z → z / 2 ^ g ≡ last / 2 ^ g → ⊥

abbrev pub Tries : (ℕ → Type 0) → ℕ → ℕ → Result ℕ ℕ → Type 0
Tries Fit last g (Ok s) = Fit s × ((z : ℕ) → Fit z → z ≤ s)
Tries Fit last g (Err c) = ((z : ℕ) → Fit z → Inside c z → ⊥) × Clear Fit last (suc g)
