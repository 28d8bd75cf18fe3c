-- What is printed of a space into which a text was written.
--   take_wrote      the first bytes of the space are the text
--   front_wrote     the front of the space is the text
-- Assumes nothing.
use Rattle.std.proofs.Common.{◌≡◌, ℕ, ◌+◌, ◌≤◌, List, arith, length, take, drop, ap, ◌∙◌}
use Rattle.std.proofs.lemmas.List.Edits.{sets-eq}
use Rattle.std.proofs.lemmas.Grind.{common_steps}
use Rattle.answer.specs.Space.{Wrote}
use Rattle.answer.proofs.Spaces.{wrote_length}
use Rattle.tell.specs.Told.{front_of}
use lib.Seq.{take_at}

pub take_wrote : (old xs new : List ℕ) (n : ℕ) → Wrote old 0 xs new n → length xs ≤ length old → take n new ≡ xs
take_wrote old xs new n w h =
    let within : 0 + length xs ≤ length old = omega arith in
    let same : length xs ≡ n = omega (arith, w.place) in
    ap (take n) (w.list ∙ sets-eq xs old 0 within) ∙ take_at xs (drop (0 + length xs) old) n same

pub front_wrote : (old xs new : List ℕ) (n : ℕ) → Wrote old 0 xs new n → length xs ≤ length old → front_of new n ≡ xs
front_wrote old xs new n w h =
    let front = take_wrote old xs new n w h in
    let long = wrote_length old 0 xs new n w in
    let fits : n ≤ length new = omega (arith, w.place, long) in
    grind (arith, common_steps, front, fits)
