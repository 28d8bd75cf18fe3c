-- What was read is the front of the input; where nothing could be read nothing is printed.
use Rattle.std.proofs.Common.{◌≡◌, ℕ, List, Option, Some, None, IfSome, arith, length, take, ap, ◌∙◌, subst}
use Rattle.std.proofs.KnownBytes.{Appends-nil}
use Rattle.streams.proofs.Leaving.{Prints-err}
use Rattle.listing_run.specs.Run.{AddsListing}
use Rattle.listing_run.proofs.run.Goals as goal

-- a fact of what was read is one of the front of the known bytes
of_front : (known : Option (List ℕ)) (bytes : List ℕ) (m k : ℕ) (P : List ℕ → Type 0) → m ≡ k → IfSome known (λ xs. bytes ≡ take m xs) → P bytes → IfSome known (λ xs. P (take k xs))
of_front None bytes m k P e h p = tt
of_front (Some xs) bytes m k P e h p = subst P (h ∙ ap (λ n. take n xs) e) p

-- what holds of all bytes holds of the known ones
of_all : (known : Option (List ℕ)) (P : List ℕ → Type 0) → ((xs : List ℕ) → P xs) → IfSome known P
of_all None P p = tt
of_all (Some xs) P p = p xs

pub returns-in_err-n-clause-listing : goal.returns-in_err-n-clause-listing
returns-in_err-n-clause-listing g c =
    let to = g.W.Write.contents c.args.to.now in
    of_all (g.R.Read.remaining c.args.input.now)
    (λ xs. AddsListing c.from_residual.result to to (take 65536 xs) 4096)
    (λ xs fits. Prints-err c.from_residual.result to to _ c.from_residual.ensures.0 (0, Appends-nil to))

pub returns-clause-listing : goal.returns-clause-listing
returns-clause-listing g c =
    of_front (g.R.Read.remaining c.args.input.now) _ (length c.read_full.new.buffer) 65536
    (λ book. AddsListing c.print_book.result (g.W.Write.contents c.args.to.now) (g.W.Write.contents c.print_book.new.to) book 4096)
    (omega arith) c.in_ok-n.ensures.front
    c.print_book.ensures
