-- What programs print of an answer.
--   front_of space n         the first n bytes of a space; none where it is too short for them
--   answer_of answer space   the bytes that a call wrote into the front of a space, or its refusal
-- Assumes nothing: these are definitions.
use Rattle.std.specs.Prelude.{ℕ, Result, Ok, Err, List, [], length, take, nat_lt, if◌then◌else◌}
use Rattle.answer.specs.declared.Refusal.{Refusal}
use Rattle.answer.specs.Refusals.{number_of}
use Rattle.report.specs.Text.{refusal_text}

abbrev pub front_of : List ℕ → ℕ → List ℕ
front_of space n = if nat_lt (length space) n then [] else take n space

abbrev pub answer_of : Result ℕ Refusal → List ℕ → List ℕ
answer_of (Ok count) space = front_of space count
answer_of (Err refusal) space = refusal_text (number_of refusal.cause) refusal.place
