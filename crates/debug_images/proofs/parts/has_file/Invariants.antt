use Rattle.std.proofs.Common.{◌≡◌, drop, map}
use Rattle.debug_images.specs.Parts.{has_file, part_view}
use Rattle.debug_images.proofs.parts.has_file.Given as goal

abbrev pub invariant-loop-part : goal.invariant-loop-part
invariant-loop-part l = record {
  rest : has_file l.file (map part_view l.parts) ≡ has_file l.file (map part_view (drop l.part-index l.parts));
}
