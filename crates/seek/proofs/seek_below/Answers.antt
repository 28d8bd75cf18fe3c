-- What `seek::seek_below` leaves open, from the laws.
use mathlib.Core.Path.{◌≡◌, subst}
use native.Mathlib.Omega.{arith}
use Rattle.records.specs.Words.{records_of}
use Rattle.path.specs.Paths.{Fits}
use Rattle.seek.specs.Paths.{Clear}
use Rattle.seek.proofs.Below.{at_seed, none_seed, clear_end}
use Rattle.seek.proofs.seek_below.Goals as goal

pub returns-in-Ok : goal.returns-in-Ok
returns-in-Ok c = let r = c.in-Ok.ensures.0 in at_seed c.args.groups (records_of c.args.records.now c.args.count) _ r.0 r.1

pub returns : goal.returns
returns c = let rs = records_of c.args.records.now c.args.count in
    let e : c.loop-g.g ≡ c.args.groups = omega arith in
    none_seed c.args.groups rs (clear_end c.args.groups rs c.args.last c.requires.2 (subst (Clear (Fits c.args.groups rs) c.args.last) e c.loop-g.invariant.clear))
