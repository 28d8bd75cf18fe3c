-- Filled to its end it is the whole space.
use Rattle.std.proofs.Common.{length, arith}
use Rattle.std.proofs.lemmas.List.FromFn.{fill_by_all}
use Rattle.case_io.proofs.fill.Goals as goal

pub returns : goal.returns
returns g c = let start = g.T.Element.start in fill_by_all start c.loop-k.space (length c.args.space.now) (start 0) c.loop-k.auto.space (λ k h. c.loop-k.invariant k (omega arith))
