-- `report::put_listing` meets its contract.
-- Assumes nothing.
use native.Mathlib.Omega.{arith}
use Rattle.report.specs.Text.{groups_word}
use Rattle.decimal.specs.Digits.{after}
use Rattle.decimal.proofs.Digits.{number_length}
use Rattle.decimal.proofs.Putting.{line_length}
use Rattle.report.proofs.Lines.{listing_wrote}
use Rattle.report.proofs.put_listing.Goals as goal

pub put_records-last-requires : goal.put_records-last-requires
put_records-last-requires c = (c.requires.0, omega (arith, line_length groups_word (after c.args.groups), number_length 4 c.args.groups (omega arith)))

pub put_last-requires : goal.put_last-requires
put_last-requires c = omega (arith, line_length groups_word (after c.args.groups), number_length 4 c.args.groups (omega arith))

pub returns : goal.returns
returns c = listing_wrote _ _ _ _ _ _ _ _ _ _ _ _ c.put_header-first.ensures c.put_records-last.ensures.wrote c.put_last.ensures
