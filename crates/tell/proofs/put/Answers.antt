-- A number below 2 ^ 64 has at most twenty digits, and they are what is printed.
use Rattle.std.proofs.Common.{arith, subst}
use Rattle.decimal.proofs.Digits.{number_length}
use Rattle.streams.specs.Streams.{Prints}
use Rattle.tell.proofs.Fronts.{front_wrote}
use Rattle.tell.proofs.put.Goals as goal

pub put_number-end-requires : goal.put_number-end-requires
put_number-end-requires g c = omega (arith, number_length 19 c.args.n (omega (arith, c.ranges.n)))

pub returns : goal.returns
returns g c =
    subst
    (Prints c.front.result (g.W.Write.contents c.args.out.now) (g.W.Write.contents c.front.new.out))
    (front_wrote _ _ _ _ c.put_number-end.ensures (omega (arith, number_length 19 c.args.n (omega (arith, c.ranges.n)))))
    c.front.ensures
