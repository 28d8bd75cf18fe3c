-- What the run of the listing program prints.
--   AddsListing r old new book k    where the listing of a book with room for k records, or its refusal, fits its space: at `Ok` known bytes grow by that text,
--                                   and at `Err` by a part of it, from the first byte on
-- Assumes nothing: this is a definition.
use Rattle.std.specs.Prelude.{ℕ, List, Option, Result, ◌≤◌, length}
use Rattle.listing.specs.Prints.{printed}
use Rattle.streams.specs.Streams.{Prints}

abbrev pub AddsListing : {A E : Type 0} → Result A E → Option (List ℕ) → Option (List ℕ) → List ℕ → ℕ → Type 0
AddsListing r old new book k = length (printed book k) ≤ 426048 → Prints r old new (printed book k)
