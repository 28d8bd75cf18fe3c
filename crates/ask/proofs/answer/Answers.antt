-- `ask::answer` meets its contract: the forced variables are marked in the front of the space and written, and the space is cleared.
-- Assumes nothing.
use mathlib.Core.Path.{sym, ◌∙◌}
use native.Mathlib.Omega.{arith}
use Rattle.book.proofs.Walk.{found}
use Rattle.ask.proofs.Answering.{cleared_after, forced_flags, forced_length, goal_is, out_is}
use Rattle.ask.proofs.answer.Goals as goal

pub slice_bounds-lowest_broken-end : goal.slice_bounds-lowest_broken-end
slice_bounds-lowest_broken-end c = let b = c.args.book.now in omega (arith, c.force.ensures.long, c.requires.1, b.variables_are, (found b).variables)

pub slice_bounds-lowest_broken-end-2 : goal.slice_bounds-lowest_broken-end-2
slice_bounds-lowest_broken-end-2 c = sym (forced_length c.args.book.now _ _ _ c.force.ensures)

pub lowest_broken-goal-requires : goal.lowest_broken-goal-requires
lowest_broken-goal-requires c = forced_length c.args.book.now _ _ _ c.force.ensures ∙ c.args.book.now.variables_are

pub slice_bounds-put_forced-end : goal.slice_bounds-put_forced-end
slice_bounds-put_forced-end c = let b = c.args.book.now in omega (arith, c.force.ensures.long, c.requires.1, b.variables_are, (found b).variables)

pub slice_bounds-put_forced-end-2 : goal.slice_bounds-put_forced-end-2
slice_bounds-put_forced-end-2 c = sym (forced_length c.args.book.now _ _ _ c.force.ensures)

pub put_forced-requires : goal.put_forced-requires
put_forced-requires c =
    let b = c.args.book.now in
    (forced_flags b _ _ _ c.force.ensures, omega (arith, c.requires.0, forced_length b _ _ _ c.force.ensures))

pub returns-clause-goal : goal.returns-clause-goal
returns-clause-goal c = goal_is c.args.book.now _ _ _ c.force.ensures _ c.lowest_broken-goal.ensures

pub returns-clause-forced : goal.returns-clause-forced
returns-clause-forced c = out_is c.args.book.now _ _ _ c.force.ensures _ _ c.put_forced.ensures

pub returns-clause-cleared : goal.returns-clause-cleared
returns-clause-cleared c = cleared_after c.args.book.now _ _ _ c.force.ensures _ c.clear.ensures
