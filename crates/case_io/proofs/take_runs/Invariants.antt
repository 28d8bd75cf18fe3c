-- The input loses bytes at its front alone.
use Rattle.streams.specs.Streams.{Loses}
use Rattle.case_io.proofs.take_runs.Given as goal

abbrev pub invariant-loop : goal.invariant-loop
invariant-loop g l = Loses (g.R.Read.remaining l.initial.input) (g.R.Read.remaining l.input)
