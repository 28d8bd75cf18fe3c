-- `writer::take` meets its contract.
-- Assumes nothing.
use mathlib.Core.Path.{◌≡◌, ◌∙◌}
use mir.Syntax.{w32}
use mir.Val.{SFits}
use Rattle.std.proofs.Common.{rules}
use Rattle.std.proofs.lemmas.Int.{to_z-of_z}
use Rattle.std.proofs.lemmas.Result.{err_from_is_err_and}
use Rattle.answer.specs.Answer.{answered}
use Rattle.book.specs.Bytes.{most_variables}
use Rattle.plain.specs.Taking.{number_at}
use Rattle.writer.proofs.Passing.{take_none, take_bad, take_one, take_groups, take_whole}
use Rattle.writer.proofs.take.Goals as goal
use Rattle.writer.proofs.take.Goals.{In_ok-variables}

-- the variables
variables : (c : In_ok-variables) → answered c.in_ok-variables.variables ≡ number_at 1 most_variables 0 c.in-Some.first.now
variables c = let f : SFits w32 c.in-Some.first.now = search rules in rw to_z-of_z at c.in_ok-variables.ensures

pub returns-in_default : goal.returns-in_default
returns-in_default c = simp (c.at.ensures.0, c.at.ensures.1) (take_none _ c.in_default.ensures.cases)

pub returns-in_err-variables : goal.returns-in_err-variables
returns-in_err-variables c =
    let f : SFits w32 c.in-Some.first.now = search rules in
    let p = err_from_is_err_and c.from_residual.result c.from_residual.ensures.1 in
    rw (p.1, p.2) (take_bad _ _ _ c.in-Some.ensures.cases.0 _ _ (rw to_z-of_z at c.in_err-variables.ensures))

pub returns-in_default-split_first : goal.returns-in_default-split_first
returns-in_default-split_first c =
    let v = variables (goal.at.returns-in_default-split_first c).In_ok-variables in
    simp (c.at-in_default-split_first.ensures.0, c.at-in_default-split_first.ensures.1)
    (take_one _ _ _ c.in-Some.ensures.cases.0 _ v c.in_default-split_first.ensures.cases)

pub returns-in_err-groups : goal.returns-in_err-groups
returns-in_err-groups c =
    let v = variables (goal.at.returns-in_err-groups c).In_ok-variables in
    let f : SFits w32 c.in-Some-split_first.second.now = search rules in
    let r = c.from_residual-in_err-groups in
    let p = err_from_is_err_and r.result r.ensures.1 in
    rw (p.1, p.2) (take_groups _ _ _ c.in-Some.ensures.cases.0 _ v _ _ c.in-Some-split_first.ensures.cases.0 _ _ (rw to_z-of_z at c.in_err-groups.ensures))

pub returns : goal.returns
returns c =
    let v = variables (goal.at.returns c).In_ok-variables in
    let f : SFits w32 c.in-Some-split_first.second.now = search rules in
    c.take_clauses.ensures ∙ take_whole _ _ _ c.in-Some.ensures.cases.0 _ v _ _ c.in-Some-split_first.ensures.cases.0 _ (rw to_z-of_z at c.in_ok-groups.ensures)
