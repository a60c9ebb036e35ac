use Rattle.std.proofs.Common.{◌≡◌, drop, map, option_map}
use Rattle.debug_images.specs.Parts.{base_by}
use Rattle.debug_images.specs.declared.bases.Base.TheVariants.{Unknown}
use Rattle.debug_records.specs.Views.{segment_view}
use Rattle.debug_images.proofs.bases.base_by.Given as goal

abbrev pub invariant-loop-segment : goal.invariant-loop-segment
invariant-loop-segment l = record {
  rest : base_by l.any l.file Unknown (map (option_map segment_view) l.segments)
      ≡ base_by l.any l.file l.so_far (map (option_map segment_view) (drop l.segment-index l.segments));
}
