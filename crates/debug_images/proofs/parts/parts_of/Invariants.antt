use Rattle.std.proofs.Common.{◌≡◌, drop, map, option_map}
use Rattle.debug_images.specs.Parts.{part_view, parts_by, parts_of}
use Rattle.debug_records.specs.Views.{segment_view}
use Rattle.debug_images.proofs.parts.parts_of.Given as goal

abbrev pub invariant-loop-segment : goal.invariant-loop-segment
invariant-loop-segment l = record {
  rest : parts_by (map (option_map segment_view) l.segments) (map part_view l.parts.items)
      (map (option_map segment_view) (drop l.segment-index l.segments)) ≡ parts_of (map (option_map segment_view) l.segments);
}
