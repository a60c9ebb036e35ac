use Rattle.std.proofs.Common.{◌≡◌, drop}
use Rattle.std.specs.Prelude.{find}
use Rattle.assembler.specs.Assembly.{source_lines}
use Rattle.remarked_source.specs.Splits.{is_label_at}
use Rattle.remarked_source.proofs.splits.label_at.Given as goal

abbrev pub invariant-loop-index : goal.invariant-loop-index
invariant-loop-index l = find (is_label_at l.address) (drop l.index (source_lines l.assembly)) ≡ find (is_label_at l.address) (source_lines l.assembly)
