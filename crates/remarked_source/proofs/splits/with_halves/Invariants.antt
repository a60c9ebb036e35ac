use Rattle.std.proofs.Common.{◌≡◌, ◌++◌, None, option_map, drop}
use Rattle.assembler.specs.Assembly.{source_lines}
use Rattle.assembler.specs.Lines.{line_view}
use Rattle.remarked_source.specs.Splits.{split_from}
use Rattle.remarked_source.proofs.splits.with_halves.Given as goal

abbrev pub invariant-loop-index : goal.invariant-loop-index
invariant-loop-index l = l.out.items ++ split_from l.tables.cells.now l.tables.splits.now (source_lines l.tables.assembly.now)
    (option_map line_view l.before) (drop l.index (source_lines l.tables.assembly.now))
    ≡ split_from l.tables.cells.now l.tables.splits.now (source_lines l.tables.assembly.now) None (source_lines l.tables.assembly.now)
