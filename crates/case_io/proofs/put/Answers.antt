-- A blank and at most twenty digits, which are what is printed.
use Rattle.std.proofs.Common.{arith, subst}
use Rattle.decimal.proofs.Digits.{number_length}
use Rattle.streams.specs.Streams.{Prints}
use Rattle.tell.proofs.Fronts.{front_wrote}
use Rattle.case_io.proofs.put.Goals as goal

pub put_after-end-requires : goal.put_after-end-requires
put_after-end-requires g c = omega (arith, number_length 19 c.args.n (omega (arith, c.ranges.n)))

pub returns : goal.returns
returns g c =
    subst
    (Prints c.front.result (g.W.Write.contents c.args.out.now) (g.W.Write.contents c.front.new.out))
    (front_wrote _ _ _ _ c.put_after-end.ensures (omega (arith, number_length 19 c.args.n (omega (arith, c.ranges.n)))))
    c.front.ensures
