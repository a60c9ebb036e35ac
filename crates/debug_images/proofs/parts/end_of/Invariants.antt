use Rattle.std.proofs.Common.{◌≡◌, drop, map, option_map}
use Rattle.debug_images.specs.Parts.{end_by}
use Rattle.debug_records.specs.Views.{segment_view}
use Rattle.debug_images.proofs.parts.end_of.Given as goal

abbrev pub invariant-loop-segment : goal.invariant-loop-segment
invariant-loop-segment l = record {
  rest : end_by l.file 0 (map (option_map segment_view) l.segments)
      ≡ end_by l.file l.so_far (map (option_map segment_view) (drop l.segment-index l.segments));
}
