use Rattle.std.proofs.Common.{◌≡◌, take}
use Rattle.assembler.specs.Assembly.{source_lines}
use Rattle.source_map.specs.Lines.{rows_of}
use Rattle.source_map.proofs.rows.rows_of.Given as goal

abbrev pub invariant-loop-index : goal.invariant-loop-index
invariant-loop-index l = record {
  rows : l.rows.items ≡ rows_of l.assembly.image (take l.index (source_lines l.assembly));
}
