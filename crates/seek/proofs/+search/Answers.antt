-- What `seek::search` leaves open, from the laws.
use Prim.Native.Nat.{ℕ, ◌≤◌}
use mathlib.Core.Path.{sym, subst}
use native.Mathlib.Omega.{arith}
use lib.ListN.{length, length-set}
use Rattle.std.proofs.lemmas.Result.{err_from_is_err_and}
use Rattle.records.specs.Words.{records_of}
use Rattle.path.specs.Paths.{Leaves, Same}
use Rattle.seek.proofs.Branches.{leaf_seeks, Step, step_fits, step_wide, step_in, step_found, step_jump, step_less, step_out, step_same}
use Rattle.seek.specs.Paths.{Seeks}
use Rattle.seek.proofs.+search.Goals as goal
use Rattle.seek.proofs.+search.Goals.{After-bit-b, After-search}

-- the step by the highest free group, where closing left groups free
stepped : (t : ℕ) (c : After-bit-b t) → let l = c.args.listed in let s = c.in_ok-now.now.sides in
    Step l.groups (records_of l.records.now l.count) c.args.held s.taken s.left s.free c.highest-group.result c.bit-b.result c.close.new.why
stepped t c = let o = c.in_ok-now.ensures.0.0.1 in record { parts = o.parts; reasons = o.reasons c.args.held c.requires.2; highest = c.highest-group.ensures.1; is_bit = c.bit-b.ensures }

-- the reasons that stay after the trial
tried : (t : ℕ) (c : After-search t) → Same c.args.before.sides.free c.args.why.now c.search.new.why
tried t c = let o = c.in_ok-now.ensures.0.0 in
    step_same (stepped t (goal.at-After-search t c).After-bit-b) c.args.why.now c.close.new.why c.search.new.why c.args.before.sides.free _ o.1.inside o.0 c.search.ensures.1

pub returns-in_err-now : goal.returns-in_err-now
returns-in_err-now t c = let p = err_from_is_err_and c.from_residual.result c.from_residual.ensures.1 in let e = c.in_err-now.ensures in
    rw (p.1, p.2) (e.0.1 c.args.held c.requires.2, e.0.0, e.1)

pub returns-then-free-eq0 : goal.returns-then-free-eq0
returns-then-free-eq0 t c = let l = c.args.listed in let e = c.in_ok-now.ensures in let o = e.0.0 in
    (subst (Seeks (Leaves l) c.args.held) (sym c.leaf.ensures) (leaf_seeks l.groups _ _ _ _ _ _ o.1.parts (o.1.reasons c.args.held c.requires.2) c.if-free-eq0.true), o.0, e.1)

pub overflow_sub-sides : goal.overflow_sub-sides
overflow_sub-sides t c = (step_fits (stepped t (goal.at.overflow_sub-sides t c).After-bit-b)).3

pub overflow_add-sides : goal.overflow_add-sides
overflow_add-sides t c = record { fits = (step_wide (stepped t (goal.at.overflow_add-sides t c).After-bit-b) c.args.listed.in_word).1 }

pub overflow_add-held : goal.overflow_add-held
overflow_add-held t c = record { fits = (step_wide (stepped t (goal.at.overflow_add-held t c).After-bit-b) c.args.listed.in_word).0 }

pub search-requires : goal.search-requires
search-requires t c = let s = stepped t (goal.at.search-requires t c).After-bit-b in let e = c.in_ok-now.ensures in let q = step_fits s in
    let l : c.args.listed.groups ≤ length c.close.new.why = omega (arith, c.requires.0, e.0.0.0.long) in
    let p = step_in s l in
    (omega (arith, c.decreases, e.0.0.1.fewer, q.3, q.4), (simp length-set l, p.0, p.1, omega (arith, c.requires.3, e.0.2, e.1), omega (arith, c.requires.4, e.1)))

pub returns-in-Ok : goal.returns-in-Ok
returns-in-Ok t c = let k = tried t (goal.at.returns-in-Ok t c).After-search in
    (step_found (stepped t (goal.at.returns-in-Ok t c).After-bit-b) _ c.in-Ok.ensures.0, k, omega (arith, c.search.ensures.2, c.in_ok-now.ensures.1))

pub returns-then-ruled-b-eq0 : goal.returns-then-ruled-b-eq0
returns-then-ruled-b-eq0 t c = let s = stepped t (goal.at.returns-then-ruled-b-eq0 t c).After-bit-b in let k = tried t (goal.at.returns-then-ruled-b-eq0 t c).After-search in
    (step_jump s _ c.in-Err.ensures.0 c.if-ruled-b-eq0.true, k, omega (arith, c.search.ensures.2, c.in_ok-now.ensures.1))

pub overflow_sub-why : goal.overflow_sub-why
overflow_sub-why t c = step_less (stepped t (goal.at.overflow_sub-why t c).After-bit-b) _ c.in-Err.ensures.0 c.if-ruled-b-eq0.false

pub overflow_sub-sides-2 : goal.overflow_sub-sides-2
overflow_sub-sides-2 t c = (step_fits (stepped t (goal.at.overflow_sub-sides-2 t c).After-bit-b)).3

pub overflow_add-sides-2 : goal.overflow_add-sides-2
overflow_add-sides-2 t c = record { fits = (step_wide (stepped t (goal.at.overflow_add-sides-2 t c).After-bit-b) c.args.listed.in_word).2 }

pub search-requires-2 : goal.search-requires-2
search-requires-2 t c = let s = stepped t (goal.at.search-requires-2 t c).After-bit-b in let k = tried t (goal.at.search-requires-2 t c).After-search in
    let e = c.in_ok-now.ensures in let q = step_fits s in
    let p = step_out s _ c.in-Err.ensures.0 c.search.new.why c.if-ruled-b-eq0.false (omega (arith, c.requires.0, e.0.0.0.long)) c.search.ensures.1 in (
      omega (arith, c.decreases, e.0.0.1.fewer, q.3, q.4),
      (simp length-set (omega (arith, c.requires.0, k.long)), p.0, p.1, omega (arith, c.requires.3, e.0.2, c.search.ensures.2, e.1), omega (arith, c.requires.4, c.search.ensures.2, e.1)),
    )

pub returns : goal.returns
returns t c = let o = c.in_ok-now.ensures.0.0 in let k = tried t (goal.at.returns t c).After-search in
    let again = step_same (stepped t (goal.at.returns t c).After-bit-b) c.args.why.now c.search.new.why c.search-2.new.why c.args.before.sides.free _ o.1.inside k c.search-2.ensures.1 in
    (c.search-2.ensures.0, again, omega (arith, c.search-2.ensures.2, c.search.ensures.2, c.in_ok-now.ensures.1))
