-- `report::put_groups` meets its contract. The groups of the set from one on are left to be written.
-- Assumes nothing.
use Rattle.answer.proofs.Spaces.{Writing}
use Rattle.report.specs.Text.{numbers, groups_of}
use Rattle.report.proofs.Digits.{left}
use Rattle.report.proofs.put_groups.Given as goal

abbrev pub invariant-loop-group : goal.invariant-loop-group
invariant-loop-group l = Writing (numbers (groups_of l.set)) l.initial.out l.at l.out l.i (left l.set l.group)
