use Rattle.std.proofs.Common.{◌≡◌, drop, map}
use Rattle.mon_line_parts.specs.SourceLines.{first_file}
use Rattle.source_map.specs.Lines.{source_view}
use Rattle.mon_line_parts.proofs.source_lines.first_file.Given as goal

abbrev pub invariant-loop-source : goal.invariant-loop-source
invariant-loop-source l = record {
  rest : first_file 0 (map source_view l.sources) l.name ≡ first_file l.number (map source_view (drop l.source-index l.sources)) l.name;
}
