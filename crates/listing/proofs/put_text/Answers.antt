-- `listing::put_text` meets its contract.
-- Assumes nothing.
use mathlib.Core.Path.{◌≡◌, refl, ap, ◌∙◌, subst}
use native.Mathlib.Omega.{arith}
use Rattle.std.specs.Prelude.{Ok}
use Rattle.book.specs.Walk.{book_of, IsBook}
use Rattle.book.proofs.Checks.{check_refused}
use Rattle.book.proofs.Walk.{is_book}
use Rattle.decimal.proofs.Putting.{wrote_as}
use Rattle.listing.proofs.Prints.{refusal_text_lem, no_refusal, complete_few, complete_text, stopped_few, stopped_text}
use Rattle.listing.proofs.put_text.Goals as goal
use Rattle.listing.proofs.put_text.Goals.{In-Ok}

-- where `check` accepts
same : (c : In-Ok) → c.in-Ok.book.bytes.now ≡ c.args.bytes.now
same c = ap (λ r. r.now) c.in-Ok.ensures.same

accepted : (c : In-Ok) → IsBook c.args.bytes.now
accepted c = let b = c.in-Ok.book in subst IsBook (same c) (is_book b.bytes.now b.accepted)

groups : (c : In-Ok) → c.in-Ok.book.groups ≡ (book_of c.args.bytes.now).groups
groups c = c.in-Ok.book.groups_are ∙ ap (λ s. (book_of s).groups) (same c)

pub returns-in-Err : goal.returns-in-Err
returns-in-Err c = wrote_as _ _ _ _ _ _ (refusal_text_lem _ _ _ _ (check_refused _ _ _ c.in-Err.ensures.checked)) c.put_refused.ensures

pub put_listing-requires : goal.put_listing-requires
put_listing-requires c =
    let f = complete_few _ (accepted (goal.at.put_listing-requires c).In-Ok) _ _ c.requires.0 _ _ _ _ c.list.ensures _ (c.in-Ok-Complete.is ∙ ap Ok c.in-Ok-Complete.field-0-is) in
    (omega (arith, f, c.list.auto.records), omega (arith, f, c.requires.1))

pub put_listing-requires-in-Ok-Stopped : goal.put_listing-requires-in-Ok-Stopped
put_listing-requires-in-Ok-Stopped c =
    let f = stopped_few _ (accepted (goal.at.put_listing-requires-in-Ok-Stopped c).In-Ok) _ _ c.requires.0 _ _ _ _ c.list.ensures _ (c.in-Ok-Stopped.is ∙ ap Ok c.in-Ok-Stopped.field-0-is) in
    (omega (arith, f, c.list.auto.records), omega (arith, f, c.requires.1))

pub returns-in-Ok-Complete : goal.returns-in-Ok-Complete
returns-in-Ok-Complete c =
    let k = (goal.at.returns-in-Ok-Complete c).In-Ok in
    wrote_as _ _ _ _ _ _ (complete_text _ (accepted k) _ _ c.requires.0 _ _ _ _ c.list.ensures _ (c.in-Ok-Complete.is ∙ ap Ok c.in-Ok-Complete.field-0-is) _ (groups k)) c.put_listing.ensures

pub returns-in-Ok-Stopped : goal.returns-in-Ok-Stopped
returns-in-Ok-Stopped c =
    let k = (goal.at.returns-in-Ok-Stopped c).In-Ok in
    wrote_as _ _ _ _ _ _ (stopped_text _ (accepted k) _ _ c.requires.0 _ _ _ _ c.list.ensures _ (c.in-Ok-Stopped.is ∙ ap Ok c.in-Ok-Stopped.field-0-is) _ (groups k)) c.put_listing-in-Ok-Stopped.ensures

pub returns-in-Err-list : goal.returns-in-Err-list
returns-in-Err-list c = absurd (no_refusal _ (accepted (goal.at.returns-in-Err-list c).In-Ok) _ _ c.requires.0 _ _ _ _ c.in-Err-list.ensures _ refl)
