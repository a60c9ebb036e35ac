use Rattle.std.proofs.Common.{◌∙◌, arith}
use Rattle.accesses.proofs.Zeros.{no_counts_are, no_counts_size}
use Rattle.accesses.proofs.tally.zeros.Goals as goal

pub returns-clause-zeros : goal.returns-clause-zeros
returns-clause-zeros c = c.loop.invariant ∙ no_counts_are _ (omega arith)

pub returns-clause-size : goal.returns-clause-size
returns-clause-size c = no_counts_size _ _ (omega arith) c.loop.invariant
