-- The word, and then the two numbers; or a part of them.
use Rattle.streams.proofs.Leaving.{AppendsPart-first, AppendsPart-then, Prints-then, Prints-err}
use Rattle.case_io.proofs.tell_refused.Goals as goal

pub returns-in_err-write_full : goal.returns-in_err-write_full
returns-in_err-write_full g c = Prints-err c.from_residual.result _ _ _ c.from_residual.ensures.0 (AppendsPart-first _ _ _ _ c.in_err-write_full.ensures)

pub returns-in_err-put : goal.returns-in_err-put
returns-in_err-put g c =
    Prints-err c.from_residual-in_err-put.result _ _ _ c.from_residual-in_err-put.ensures.0
    (AppendsPart-then _ _ _ _ _ c.in_ok-write_full.ensures (AppendsPart-first _ _ _ _ c.in_err-put.ensures))

pub returns : goal.returns
returns g c =
    let r = c.put-2.result in
    Prints-then r _ _ _ _ _ c.in_ok-write_full.ensures (Prints-then r _ _ _ _ _ c.in_ok-put.ensures c.put-2.ensures)
