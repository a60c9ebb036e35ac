use Rattle.std.proofs.Common.{◌≡◌, ◌++◌, drop, map, string_bytes}
use Rattle.debug_images.specs.Parts.{part_view}
use Rattle.debug_images.specs.Words.{part_words}
use Rattle.debug_images.proofs.words.part_words.Given as goal

abbrev pub invariant-loop-part : goal.invariant-loop-part
invariant-loop-part l = record {
  rest : map string_bytes l.words.items ++ part_words l.file (map part_view (drop l.part-index l.parts))
      ≡ part_words l.file (map part_view l.parts);
}
