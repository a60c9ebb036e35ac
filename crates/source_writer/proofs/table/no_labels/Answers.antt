use Rattle.std.proofs.Common.{◌∙◌, arith}
use Rattle.source_writer.proofs.Withins.{labels_are}
use Rattle.source_writer.proofs.table.no_labels.Goals as goal

pub returns-clause-none : goal.returns-clause-none
returns-clause-none c = c.loop.invariant.none ∙ labels_are _ (omega arith)
