-- What a read and a write leaves, at an error too, where the bytes that a reader has left and a writer holds are known.
--   AppendsPart old new bs     known bytes grow by the first n of bs, for some n
--   Prints r old new bs        known bytes grow by bs at `Ok`, and by the first n of bs, for some n, at `Err`
--   Loses old new              known bytes lose some bytes at their front, or none
-- Assumes nothing: these are definitions.
use Rattle.std.specs.Prelude.{ℕ, List, Option, Result, take, MatchResult}
use Rattle.std.specs.Io.KnownBytes.{Appends, Consumes}

abbrev pub AppendsPart : Option (List ℕ) → Option (List ℕ) → List ℕ → Type 0
AppendsPart old new bs = (n : ℕ) × Appends old new (take n bs)

abbrev pub Prints : {A E : Type 0} → Result A E → Option (List ℕ) → Option (List ℕ) → List ℕ → Type 0
Prints r old new bs = MatchResult r (λ _. Appends old new bs) (λ _. AppendsPart old new bs)

abbrev pub Loses : Option (List ℕ) → Option (List ℕ) → Type 0
Loses old new = (bs : List ℕ) × Consumes old new bs
