use Rattle.std.proofs.Common.{◌≡◌, ◌++◌, take, flat_map}
use Rattle.page_writer.specs.Files.{with_end}
use Rattle.page_writer.proofs.files.push_lines.Given as goal
use Rattle.source_map.specs.Lines.{items_of}

abbrev pub invariant-loop-line : goal.invariant-loop-line
invariant-loop-line l = l.text.items ≡ l.initial.text.items ++ flat_map with_end (items_of (take l.line-index l.lines))
