use Rattle.std.proofs.Common.{◌≡◌, drop, map}
use Rattle.debug_images.specs.Parts.{first_unplaced, part_view}
use Rattle.debug_images.proofs.parts.first_unplaced.Given as goal

abbrev pub invariant-loop-part : goal.invariant-loop-part
invariant-loop-part l = record {
  rest : first_unplaced (map part_view l.parts) ≡ first_unplaced (map part_view (drop l.part-index l.parts));
}
