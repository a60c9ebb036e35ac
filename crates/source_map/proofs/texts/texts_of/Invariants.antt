use Rattle.std.proofs.Common.{◌≡◌, take}
use Rattle.assembler.specs.Assembly.{source_lines}
use Rattle.source_map.specs.Lines.{items_of, texts_of}
use Rattle.source_map.proofs.texts.texts_of.Given as goal

abbrev pub invariant-loop-index : goal.invariant-loop-index
invariant-loop-index l = record {
  texts : items_of l.texts.items ≡ texts_of (take l.index (source_lines l.assembly));
}
