-- `report::put_record` meets its contract. The line is not longer than the room that it needs.
-- Assumes nothing.
use native.Mathlib.Omega.{arith}
use Rattle.report.proofs.Lines.{kind_length, set_length, record_wrote}
use Rattle.report.proofs.put_record.Goals as goal

pub put_set-end-requires : goal.put_set-end-requires
put_set-end-requires c = omega (arith, kind_length c.args.listed.kind, set_length c.args.listed.set (omega arith))

pub put_byte-requires : goal.put_byte-requires
put_byte-requires c = omega (arith, kind_length c.args.listed.kind, set_length c.args.listed.set (omega arith))

pub returns : goal.returns
returns c =
    record {
      wrote = record_wrote _ _ _ _ _ _ _ _ _ _ c.put_kind-word.ensures c.put_set-end.ensures c.put_byte.ensures;
      upper_bound = omega (arith, kind_length c.args.listed.kind, set_length c.args.listed.set (omega arith));
    }
