use Rattle.std.proofs.Common.{◌≡◌, ◌++◌, take, flat_map}
use Rattle.page_writer.specs.Facts.{number_fact}
use Rattle.source_map.specs.Names.{named_numbers}
use Rattle.page_writer.proofs.names.push_names.Given as goal

abbrev pub invariant-loop-index : goal.invariant-loop-index
invariant-loop-index l = record {
  added : l.text.items ≡ l.fn.text.items ++ flat_map (number_fact l.fn.is_other l.fn.written) (take l.index (named_numbers l.assembly));
}
