-- What `seek::newest` leaves open, from the laws.
use Prim.Native.Nat.{ℕ, ◌-◌}
use mathlib.Core.Path.{refl, sym, subst}
use native.Mathlib.Omega.{arith}
use Rattle.path.specs.Paths.{Leaves, Parts, Reasons}
use Rattle.seek.proofs.Below.{ruled_start, whole_parts, whole_reasons, along_same}
use Rattle.seek.proofs.newest.Goals as goal

pub returns-then-listed-eq0 : goal.returns-then-listed-eq0
returns-then-listed-eq0 c = (ruled_start (Leaves c.args.listed) c.args.last c.requires.3, c.requires.2, refl)

pub advance-requires : goal.advance-requires
advance-requires c = let n = c.args.listed.groups in
    (omega (arith, c.if-listed-eq0.false), c.requires.0, subst (λ (x : ℕ). Parts n c.args.last (x - c.args.last) 0) (sym c.all.ensures) (whole_parts n c.args.last c.requires.1))

pub returns-in-Ok : goal.returns-in-Ok
returns-in-Ok c = let S = c.in-Ok.ensures.0 in
    (ruled_start (Leaves c.args.listed) c.args.last c.requires.3, along_same c.args.last c.args.listed.groups c.args.why.now c.advance.new.why c.requires.2 S, S.long)

pub returns-in-Err : goal.returns-in-Err
returns-in-Err c = let S = c.in-Err.ensures.0 in let l = c.args.listed in
    let R = subst (λ (x : ℕ). Reasons (Leaves l) c.args.last c.args.last (x - c.args.last) c.args.why.now) (sym c.all.ensures)
    (whole_reasons l.groups c.args.last c.requires.1 (Leaves l) c.args.why.now c.requires.2 c.requires.3) in
    ((c.in-Err.ensures.1 c.args.last R).1, along_same c.args.last l.groups c.args.why.now c.advance.new.why c.requires.2 S, S.long)
