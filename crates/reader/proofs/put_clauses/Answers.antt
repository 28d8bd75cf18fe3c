-- What `reader::put_clauses` leaves open, from the laws.
use Rattle.book.proofs.Walks.{filling_room, filling_next, filling_end}
use Rattle.reader.proofs.Walks.{clauses_joined}
use Rattle.reader.proofs.put_clauses.Goals as goal

pub put_clause-at-requires : goal.put_clause-at-requires
put_clause-at-requires c = filling_room _ _ clauses_joined _ _ _ _ _ _ c.loop-clause.invariant _ _ c.in-Some.ensures.steps.0 c.requires

pub loop-clause-preserved : goal.loop-clause-preserved
loop-clause-preserved c = filling_next _ _ clauses_joined _ _ _ _ _ _ c.loop-clause.invariant _ _ c.in-Some.ensures.steps.0 _ _ c.put_clause-at.ensures

pub returns : goal.returns
returns c = filling_end _ _ clauses_joined _ _ _ _ _ _ c.loop-clause.invariant c.in-None.ensures.steps.0.0
