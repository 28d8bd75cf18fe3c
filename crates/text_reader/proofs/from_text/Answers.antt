-- `text_reader::from_text` meets its contract.
-- Assumes nothing.
use native.Mathlib.Omega.{arith}
use Rattle.std.proofs.lemmas.Result.{err_from_is_err_and}
use Rattle.writer.proofs.Books.{put_refused}
use Rattle.text_reader.specs.FromText.{from_text}
use Rattle.text_reader.proofs.Openings.{Opened, opening_refused, opening_found, opened_small}
use Rattle.text_reader.proofs.Whole.{rest_put}
use Rattle.text_reader.proofs.from_text.Goals as goal
use Rattle.text_reader.proofs.from_text.Goals.{In_ok-opening}

-- where the `p` line is found
found : (c : In_ok-opening) → Opened 1 0 c.args.text.now c.in_ok-opening.opening
found c = opening_found _ _ c.in_ok-opening.ensures

pub returns-in_err-opening : goal.returns-in_err-opening
unfolding from_text
returns-in_err-opening c =
    let p = err_from_is_err_and c.from_residual.result c.from_residual.ensures.1 in
    rw (p.1, p.2) (put_refused _ _ _ (opening_refused _ _ _ c.in_err-opening.ensures))

pub slice_bounds-write_rest-count : goal.slice_bounds-write_rest-count
slice_bounds-write_rest-count c = let o = found (goal.at.slice_bounds-write_rest-count c).In_ok-opening in omega (arith, o.place, o.inside)

pub slice_bounds-write_rest-start : goal.slice_bounds-write_rest-start
slice_bounds-write_rest-start c = let o = found (goal.at.slice_bounds-write_rest-start c).In_ok-opening in omega (arith, o.place, o.inside)

pub write_rest-requires : goal.write_rest-requires
write_rest-requires c = let o = found (goal.at.write_rest-requires c).In_ok-opening in
    (omega (arith, o.variables), omega (arith, o.groups), omega (arith, opened_small _ _ o, c.well_formed))

pub returns : goal.returns
unfolding from_text
returns c = rest_put _ c.args.out.now _ _ _ (found (goal.at.returns c).In_ok-opening) c.write_rest.ensures
