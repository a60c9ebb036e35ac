use Rattle.std.proofs.Common.{◌≡◌, ◌++◌, ◌-◌, ◌+◌}
use Rattle.assembler.specs.Assembly.{source_lines}
use Rattle.remarked_source.specs.Splits.{byte_lines}
use Rattle.remarked_source.proofs.splits.push_byte_lines.Given as goal

abbrev pub invariant-loop-offset : goal.invariant-loop-offset
invariant-loop-offset l = l.out.items ++ byte_lines l.tables.cells.now l.tables.splits.now (source_lines l.tables.assembly.now)
    (l.line.count - l.offset) (l.line.address + l.offset)
    ≡ l.fn.out.items ++ byte_lines l.tables.cells.now l.tables.splits.now (source_lines l.tables.assembly.now) l.line.count l.line.address
