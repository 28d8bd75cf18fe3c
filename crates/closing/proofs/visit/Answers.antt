-- What `closing::visit` leaves open, from the laws.
use mathlib.Core.Path.{refl}
use Rattle.std.proofs.lemmas.Result.{err_from_is_err_and}
use Rattle.closing.proofs.visit.Goals as goal

pub returns-in_err-sides : goal.returns-in_err-sides
returns-in_err-sides c = let p = err_from_is_err_and c.from_residual.result c.from_residual.ensures.1 in rw (p.1, p.2) (c.in_err-sides.ensures, refl)
