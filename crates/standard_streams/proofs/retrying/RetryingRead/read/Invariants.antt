-- A read that was interrupted consumes nothing.
use Rattle.std.specs.Io.KnownBytes.{Keeps}
use Rattle.standard_streams.proofs.retrying.RetryingRead.read.Given as goal

abbrev pub invariant-loop : goal.invariant-loop
invariant-loop g l = Keeps (g.R.Read.remaining l.initial.self.inner) (g.R.Read.remaining l.self.inner)
