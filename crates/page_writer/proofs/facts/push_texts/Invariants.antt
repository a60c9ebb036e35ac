use Rattle.std.proofs.Common.{◌≡◌, ◌++◌, take, flat_map}
use Rattle.assembler.specs.Assembly.{source_lines}
use Rattle.page_writer.specs.Facts.{text_of}
use Rattle.page_writer.proofs.facts.push_texts.Given as goal

abbrev pub invariant-loop-index : goal.invariant-loop-index
invariant-loop-index l = record {
  texts : l.text.items ≡ l.fn.text.items ++ flat_map text_of (take l.index (source_lines l.assembly));
}
