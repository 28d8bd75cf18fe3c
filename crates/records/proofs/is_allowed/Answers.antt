-- What `records::is_allowed` leaves open, from the laws.
use mathlib.Core.Path.{sym, ap, ◌∙◌}
use native.Mathlib.Omega.{arith}
use Rattle.records.proofs.Words.{allowed_by, allowed_not}
use Rattle.rounds.specs.Records.{Record, allows}
use Rattle.records.proofs.is_allowed.Goals as goal

pub returns-then-not-allows : goal.returns-then-not-allows
returns-then-not-allows c = sym (allowed_not c.args.records.now c.args.count c.args.choice c.loop-i.i c.loop-i-test.true
    (ap (λ (r : Record). allows r c.args.choice) (sym c.record_at.ensures) ∙ sym c.allows.ensures ∙ c.if-not-allows.true))

pub returns : goal.returns
returns c = sym (allowed_by c.args.records.now c.args.count c.args.choice (λ j h. c.loop-i.invariant j (omega (arith, c.loop-i-test.false))))
