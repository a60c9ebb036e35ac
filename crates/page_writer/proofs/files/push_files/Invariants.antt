use Rattle.std.proofs.Common.{◌≡◌, ◌++◌, map, take, flat_map}
use Rattle.page_writer.specs.Files.{file_fact}
use Rattle.page_writer.proofs.files.push_files.Given as goal
use Rattle.source_map.specs.Lines.{source_view}

abbrev pub invariant-loop-source : goal.invariant-loop-source
invariant-loop-source l = l.text.items ≡ l.initial.text.items ++ flat_map file_fact (map source_view (take l.source-index l.sources))
