-- What `closing::pass` leaves open, from the laws.
use Prim.Native.Nat.{◌-◌, min}
use native.Mathlib.Omega.{arith}
use Rattle.std.proofs.Common.{Ok, Err}
use Rattle.std.proofs.lemmas.Result.{err_from_is_err_and}
use Rattle.closing.proofs.Passes.{passing_then}
use Rattle.closing.proofs.pass.Goals as goal

pub returns-in_err-now : goal.returns-in_err-now
returns-in_err-now c = let p = err_from_is_err_and c.from_residual.result c.from_residual.ensures.1 in let i = c.loop-k.invariant in
    rw (p.1, p.2) (
      passing_then i.narrows i.same 0 c.args.before.most c.loop-k.now.most i.most (Err c.in_err-now.field-0.0) c.visit.new.why c.in_err-now.ensures.0,
      omega (arith, c.in_err-now.ensures.1, i.long),
    )

pub loop-k-preserved : goal.loop-k-preserved
loop-k-preserved c = let i = c.loop-k.invariant in let m = c.args.before.most in
    let p = passing_then i.narrows i.same (min (c.loop-k.k - 1) m) m c.loop-k.now.most i.most (Ok c.in_ok-now.now) c.visit.new.why c.in_ok-now.ensures.0 in
    record { low = p.1; most = p.2; long = omega (arith, c.in_ok-now.ensures.1, i.long); same = p.0.0; narrows = p.0.1 }
