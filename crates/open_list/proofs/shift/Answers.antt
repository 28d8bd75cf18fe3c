-- `open_list::shift` meets its contract.
-- Assumes nothing.
use mathlib.Core.Path.{refl}
use native.Mathlib.Omega.{arith}
use lib.ListN.{length-set}
use Rattle.open_list.proofs.Entries.{shift_beside}
use Rattle.open_list.proofs.shift.Goals as goal

pub returns : goal.returns
returns c = (
  c.if-p-b.false,
  simp length-set refl,
  shift_beside c.args.p c.args.list.now c.requires.1 c.bound-b.result c.args.g _ (omega arith) c.if-p-b.false,
)
