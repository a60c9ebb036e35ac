use Rattle.std.proofs.Common.{◌≡◌, ◌++◌, None, option_map, drop}
use Rattle.assembler.specs.Assembly.{source_lines}
use Rattle.assembler.specs.Lines.{line_view}
use Rattle.remarked_source.specs.Strings.{joined_from}
use Rattle.remarked_source.proofs.strings.joined.Given as goal

abbrev pub invariant-loop-index : goal.invariant-loop-index
invariant-loop-index l = l.out.items ++ joined_from l.marks (option_map line_view l.before) (drop l.index (source_lines l.assembly))
    ≡ joined_from l.marks None (source_lines l.assembly)
