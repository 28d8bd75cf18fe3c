-- What `clause_line::scan_literals` leaves open, from the laws.
use Rattle.std.proofs.Common.{◌≡◌, ◌∙◌, ap, sym, arith, rules, Some}
use Rattle.line.specs.Starts.{next_literal}
use Rattle.line.specs.declared.Literal.{Literal}
use Rattle.clause_line.proofs.Scans.{scan_none, scan_open, scan_end, scan_head, scan_body, scan_count, scan_rising}
use Rattle.clause_line.proofs.scan_literals.Goals as goal
use Rattle.clause_line.proofs.scan_literals.Goals.{In_ok-literal, then-scan-eq0, else-scan-eq0}

-- the literal in front, as the match finds it
here : (c : In_ok-literal) (x : Literal) → c.in_ok-literal.literal ≡ x → next_literal c.loop-literal.t.now ≡ Some (x, c.in_ok-literal.next)
here c x e = sym c.next_literal.ensures.value ∙ c.in_ok-literal.was ∙ ap (λ (y : Literal). Some (y, c.in_ok-literal.next)) e

pub returns-in_err-literal : goal.returns-in_err-literal
returns-in_err-literal c = let l = c.loop-literal in
    let s = scan_none _ _ l.t.now _ _ _ l.invariant.0 (sym c.next_literal.ensures.value ∙ c.in_err-literal.was) in
    record { value = c.from_residual.ensures ∙ s.0; body_after = s.1 }

pub loop-literal-preserved-in-Head : goal.loop-literal-preserved-in-Head
loop-literal-preserved-in-Head c = let l = c.loop-literal in
    let j = c.if-scan-eq0 in
    let e = here (goal.at.loop-literal-preserved-in-Head c).In_ok-literal _ c.in-Head.is in (
      scan_head _ _ l.t.now _ _ _ l.invariant.0 _ _ e j.head
          (λ z. elim j.branch [ then-scan-eq0 w ↦ w.head-is | else-scan-eq0 w ↦ absurd (w.if-scan-eq0.false z) ])
          (λ z. elim j.branch [ then-scan-eq0 w ↦ absurd (z w.if-scan-eq0.true) | else-scan-eq0 w ↦ w.head-is ]),
      l.invariant.1,
    )

pub insert-requires : goal.insert-requires
insert-requires c = let l = c.loop-literal in
    (scan_count _ _ l.t.now _ _ _ l.invariant.0, omega (arith, l.invariant.1, c.requires), scan_rising _ _ l.t.now _ _ _ l.invariant.0)

pub loop-literal-preserved : goal.loop-literal-preserved
loop-literal-preserved c = let l = c.loop-literal in
    let i = c.insert in
    let e = here (goal.at.loop-literal-preserved c).In_ok-literal _ c.in-Body.is in
    (scan_body _ _ l.t.now _ _ _ l.invariant.0 _ _ e i.result i.new.words (i.ensures.value, i.ensures.words_after), search rules)

pub returns-then-is_blank : goal.returns-then-is_blank
returns-then-is_blank c = let l = c.loop-literal in
    let e = here (goal.at.returns-then-is_blank c).In_ok-literal _ c.in-End.is in
    let s = scan_end _ _ l.t.now _ _ _ l.invariant.0 _ e _ c.is_blank.ensures c.if-is_blank.true in
    record { value = s.0; body_after = s.1 }

pub returns-else-is_blank : goal.returns-else-is_blank
returns-else-is_blank c = let l = c.loop-literal in
    let e = here (goal.at.returns-else-is_blank c).In_ok-literal _ c.in-End.is in
    let s = scan_open _ _ l.t.now _ _ _ l.invariant.0 _ e _ c.is_blank.ensures c.if-is_blank.false in
    record { value = s.0; body_after = s.1 }
