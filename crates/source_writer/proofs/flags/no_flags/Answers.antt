use Rattle.std.proofs.Common.{◌∙◌, arith}
use Rattle.source_writer.proofs.Withins.{flags_are}
use Rattle.source_writer.proofs.flags.no_flags.Goals as goal

pub returns-clause-none : goal.returns-clause-none
returns-clause-none c = c.loop.invariant.none ∙ flags_are _ (omega arith)
