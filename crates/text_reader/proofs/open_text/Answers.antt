-- What `text_reader::open_text` leaves open, from the laws.
use mathlib.Core.Path.{◌≡◌, sym, ap, ◌∙◌}
use native.Mathlib.Omega.{arith}
use lib.ListN.{length}
use Rattle.std.specs.Prelude.{Some}
use Rattle.line.specs.Starts.{start_of}
use Rattle.text_reader.specs.Steps.{line_in}
use Rattle.text_reader.proofs.Turns.{after_shorter}
use Rattle.text_reader.proofs.Openings.{seeking_start, seeking_skipped, seeking_heading, seeking_clause, seeking_formless, seeking_end}
use Rattle.text_reader.proofs.open_text.Goals as goal
use Rattle.text_reader.proofs.open_text.Goals.{After-start_of}

-- what the next line begins as
begins : (c : After-start_of) → start_of (line_in c.loop-first.rest.now) ≡ c.start_of.result
begins c = ap start_of (sym c.in-Some.ensures.0) ∙ sym c.start_of.ensures

pub loop-first-init : goal.loop-first-init
loop-first-init c = seeking_start _

pub returns-in-Some-Heading : goal.returns-in-Some-Heading
returns-in-Some-Heading c =
    c.open_heading.ensures
    ∙ rw (← c.in-Some.ensures.1) at (seeking_heading _ c.loop-first.rest.now _ c.loop-first.invariant c.in-Some.ensures.2 _
    (begins (goal.at.returns-in-Some-Heading c).After-start_of ∙ c.in-Some-Heading.is ∙ ap Some c.in-Some-Heading.field-0-is))

pub returns-in-Some-Clause : goal.returns-in-Some-Clause
returns-in-Some-Clause c =
    simp (c.at.ensures.0, c.at.ensures.1)
    (seeking_clause _ c.loop-first.rest.now _ c.loop-first.invariant c.in-Some.ensures.2 _ _
    (begins (goal.at.returns-in-Some-Clause c).After-start_of ∙ c.in-Some-Clause.is ∙ ap Some c.in-Some-Clause.field-0-is))

pub returns-in-None : goal.returns-in-None
returns-in-None c =
    simp (c.at-in-None.ensures.0, c.at-in-None.ensures.1)
    (seeking_formless _ c.loop-first.rest.now _ c.loop-first.invariant c.in-Some.ensures.2 (begins (goal.at.returns-in-None c).After-start_of ∙ c.in-None.is))

pub loop-first-smaller : goal.loop-first-smaller
loop-first-smaller c = omega (arith, after_shorter c.loop-first.rest.now c.in-Some.ensures.2, ap length c.in-Some.ensures.1)

pub loop-first-preserved : goal.loop-first-preserved
loop-first-preserved c =
    rw c.in-Some.ensures.1
    (seeking_skipped _ c.loop-first.rest.now _ c.loop-first.invariant c.in-Some.ensures.2
    (begins (goal.at.loop-first-preserved c).After-start_of ∙ c.in-Some-Skipped.is ∙ ap Some c.in-Some-Skipped.field-0-is))

pub returns : goal.returns
returns c = simp (c.at-2.ensures.0, c.at-2.ensures.1) (seeking_end _ _ _ c.loop-first.invariant c.in_default.ensures)
