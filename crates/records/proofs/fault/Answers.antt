-- What `records::fault` leaves open, from the laws.
use Prim.Native.Nat.{ℕ, ◌+◌, ◌-◌, ◌*◌}
use mathlib.Core.Path.{◌≡◌, sym, ap, ◌∙◌}
use native.Mathlib.Omega.{arith}
use lib.ListN.{get_or}
use Rattle.records.proofs.Words.{first_here, first_next, first_end, fault_is}
use Rattle.records.specs.Words.{faulty}
use Rattle.rounds.specs.Rounds.{first_from}
use Rattle.records.proofs.fault.Goals as goal

pub loop-i-init : goal.loop-i-init
loop-i-init c = fault_is _ _ _ ∙ ap (λ (k : ℕ). first_from (λ j. faulty c.args.groups j (get_or c.args.records.now j 0)) k 0) (let e : 2 * c.args.count ≡ 2 * c.args.count - 0 = omega arith in e)

pub returns-then-is_faulty : goal.returns-then-is_faulty
returns-then-is_faulty c = sym (c.loop-i.invariant ∙ first_here _ _ _ (omega arith) (sym c.is_faulty.ensures ∙ c.if-is_faulty.true))

pub loop-i-preserved : goal.loop-i-preserved
loop-i-preserved c = c.loop-i.invariant ∙ first_next _ _ _ (omega arith) (sym c.is_faulty.ensures ∙ c.if-is_faulty.false)
    ∙ ap (λ (k : ℕ). first_from (λ j. faulty c.args.groups j (get_or c.args.records.now j 0)) k (c.loop-i.i + 1)) (omega arith)

pub returns : goal.returns
returns c = sym (c.loop-i.invariant ∙ first_end _ _ _ (omega arith) ∙ omega arith)
