-- What `closing::close` leaves open, from the laws.
use native.Mathlib.Omega.{arith}
use Rattle.std.proofs.Common.{Ok, Err}
use Rattle.std.proofs.lemmas.Result.{err_from_is_err_and}
use Rattle.path.specs.Paths.{Leaves}
use Rattle.closing.specs.Passes.{Passing}
use Rattle.closing.proofs.Passes.{passing_then}
use Rattle.closing.proofs.close.Goals as goal
use Rattle.closing.proofs.close.Goals.{In_ok-next}

-- this pass after those before it
then_next : (c : In_ok-next) → let s = c.args.before.sides in
    Passing c.args.listed.groups (Leaves c.args.listed) s.taken s.left s.free c.args.why.now 0 c.args.before.most (Ok c.in_ok-next.next) c.pass.new.why
then_next c = let i = c.loop-next.invariant in passing_then i.narrows i.same 0 c.args.before.most c.loop-next.now.most i.most (Ok c.in_ok-next.next) c.pass.new.why c.in_ok-next.ensures.0

pub returns-in_err-next : goal.returns-in_err-next
returns-in_err-next c = let p = err_from_is_err_and c.from_residual.result c.from_residual.ensures.1 in let i = c.loop-next.invariant in
    rw (p.1, p.2) (
      passing_then i.narrows i.same 0 c.args.before.most c.loop-next.now.most i.most (Err c.in_err-next.field-0.0) c.pass.new.why c.in_err-next.ensures.0,
      omega (arith, c.in_err-next.ensures.1, i.long),
    )

pub returns-then-next-now : goal.returns-then-next-now
returns-then-next-now c = (then_next (goal.at.returns-then-next-now c).In_ok-next, omega (arith, c.in_ok-next.ensures.1, c.loop-next.invariant.long))

pub loop-next-preserved : goal.loop-next-preserved
loop-next-preserved c = let p = then_next (goal.at.loop-next-preserved c).In_ok-next in
    record { most = p.2; long = omega (arith, c.in_ok-next.ensures.1, c.loop-next.invariant.long); same = p.0.0; narrows = p.0.1 }
