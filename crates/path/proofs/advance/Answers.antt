-- What `path::advance` leaves open, from the laws.
use Rattle.std.proofs.Common.{Some, Ok}
use Rattle.std.proofs.lemmas.Result.{err_from_is_err_and}
use Rattle.path.proofs.Paths.{barred, bars_record, free_fits}
use Rattle.path.proofs.Pressing.{record_shut, record_last}
use Rattle.path.specs.Paths.{Leaves, Bars, Pressing}
use Rattle.path.proofs.advance.Goals as goal
use Rattle.path.proofs.advance.Goals.{After-press, In-Some}

-- what the record bars
bars : (c : After-press) → Bars (Leaves c.args.listed) c.record_at-record.result.set (barred c.record_at-record.result.kind)
bars c = let l = c.args.listed in
    bars_record l.groups l.records.now l.count c.args.i c.requires.0 c.record_at-record.result.kind c.record_at-record.result.set c.record_at-record.ensures

-- what was pressed, where the last group goes to the other side
last : (c : In-Some)
    → Pressing c.args.listed.groups c.record_at-record.result.set c.against-side.result c.args.sides.free c.args.why.now (Ok (Some c.in-Some.group)) c.press.new.why
last c = rw c.in-Some.is at c.in_ok-last.ensures

pub returns-in_err-last : goal.returns-in_err-last
returns-in_err-last c = let p = err_from_is_err_and c.from_residual.result c.from_residual.ensures.1 in let l = c.args.listed in let r = c.record_at-record.result in
    rw (p.1, p.2) (record_shut l.groups (Leaves l) r.set c.args.sides c.args.why.now c.press.new.why c.requires.2 r.kind c.against-side.result c.against-side.ensures
    (bars (goal.at.returns-in_err-last c).After-press) _ c.in_err-last.ensures)

pub decide-requires : goal.decide-requires
decide-requires c = let l = c.args.listed in
    free_fits l.groups c.args.sides.taken c.args.sides.left c.args.sides.free c.requires.2 c.in-Some.group (last (goal.at.decide-requires c).In-Some).0.is_free l.in_word

pub returns-in-Some : goal.returns-in-Some
returns-in-Some c = let l = c.args.listed in let r = c.record_at-record.result in
    rw c.decide.ensures (record_last l.groups (Leaves l) r.set c.args.sides c.args.why.now c.press.new.why c.requires.2 r.kind c.against-side.result c.against-side.ensures
    (bars (goal.at.returns-in-Some c).After-press) c.in-Some.group c.requires.1 (last (goal.at.returns-in-Some c).In-Some))
