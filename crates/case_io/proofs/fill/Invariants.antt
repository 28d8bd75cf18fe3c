-- Each place before k has what stands there before a call.
use Rattle.std.proofs.Common.{◌≡◌, ℕ, ◌<◌, get_or}
use Rattle.case_io.proofs.fill.Given as goal

abbrev pub invariant-loop-k : goal.invariant-loop-k
invariant-loop-k g l = let start = g.T.Element.start in (k : ℕ) → k < l.k → get_or l.space k (start 0) ≡ start k
