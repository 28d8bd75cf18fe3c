-- What `text_writer::put_clauses` leaves open, from the laws.
use Rattle.book.proofs.Walks.{filling_room, filling_next, filling_end}
use Rattle.text.proofs.Written.{clauses_joined}
use Rattle.text_writer.proofs.put_clauses.Goals as goal

pub put_clause-i-requires : goal.put_clause-i-requires
put_clause-i-requires c = filling_room _ _ clauses_joined _ _ _ _ _ _ c.loop-clause.invariant _ _ c.in-Some.ensures.steps.0 c.requires

pub loop-clause-preserved : goal.loop-clause-preserved
loop-clause-preserved c = filling_next _ _ clauses_joined _ _ _ _ _ _ c.loop-clause.invariant _ _ c.in-Some.ensures.steps.0 _ _ c.put_clause-i.ensures

pub returns : goal.returns
returns c = filling_end _ _ clauses_joined _ _ _ _ _ _ c.loop-clause.invariant c.in-None.ensures.steps.0.0
