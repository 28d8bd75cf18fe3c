-- What `seek::seek` leaves open, from the laws.
use mathlib.Core.Path.{sym, subst}
use native.Mathlib.Omega.{arith}
use Rattle.path.specs.Paths.{Parts}
use Rattle.seek.proofs.Below.{starts_parts, starts_reasons, seeks_seed, seeks_none}
use Rattle.seek.proofs.seek.Goals as goal

pub search-requires : goal.search-requires
search-requires c = (
  c.requires.1,
  subst (Parts c.args.groups 0 0) (sym c.all.ensures) (starts_parts c.args.groups),
  starts_reasons _ _,
  omega (arith, c.listed.ensures, c.fill.ensures.0, c.requires.2),
  omega (arith, c.fill.ensures.0, c.requires.3),
)

pub returns-in-Ok : goal.returns-in-Ok
returns-in-Ok c = seeks_seed _ _ _ c.in-Ok.ensures.0

pub returns-in-Err : goal.returns-in-Err
returns-in-Err c = seeks_none _ _ _ c.in-Err.ensures.0
