-- The input loses bytes at its front alone.
use Rattle.streams.specs.Streams.{Loses}
use Rattle.case_io.proofs.Number.next_all.Given as goal

abbrev pub invariant-loop-place : goal.invariant-loop-place
invariant-loop-place g l = Loses (g.R.Read.remaining l.initial.input) (g.R.Read.remaining l.input)
