use Rattle.std.proofs.Common.{◌≡◌, drop}
use Rattle.std.specs.Prelude.{find}
use Rattle.assembler.specs.Assembly.{source_lines}
use Rattle.remarked_source.specs.Splits.{covers}
use Rattle.remarked_source.proofs.splits.line_of.Given as goal

abbrev pub invariant-loop-index : goal.invariant-loop-index
invariant-loop-index l = find (covers l.address) (drop l.index (source_lines l.assembly)) ≡ find (covers l.address) (source_lines l.assembly)
