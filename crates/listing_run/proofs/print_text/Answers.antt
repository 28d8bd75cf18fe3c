-- What was written into the space is what is printed of it.
use Rattle.std.proofs.Common.{arith, subst}
use Rattle.streams.specs.Streams.{Prints}
use Rattle.tell.proofs.Fronts.{front_wrote}
use Rattle.listing_run.proofs.print_text.Goals as goal

pub returns : goal.returns
returns g c work records out fits =
    subst
    (Prints c.front.result (g.W.Write.contents c.args.to.now) (g.W.Write.contents c.front.new.out))
    (front_wrote _ _ _ _ c.put_text-n.ensures (omega arith))
    c.front.ensures
