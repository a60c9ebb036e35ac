use Rattle.std.proofs.Common.{◌≡◌, ◌++◌, drop, map, option_map}
use Rattle.std.specs.Prelude.{string_bytes}
use Rattle.std.specs.List.{flat_map}
use Rattle.debug_facts.specs.Rows.{segment_row}
use Rattle.debug_records.specs.Views.{segment_view}
use Rattle.debug_facts.proofs.segments.push_segments.Given as goal

abbrev pub invariant-loop-segment : goal.invariant-loop-segment
invariant-loop-segment l = string_bytes l.words ++ flat_map segment_row (map (option_map segment_view) (drop l.segment-index l.segments))
    ≡ string_bytes l.initial.words ++ flat_map segment_row (map (option_map segment_view) l.segments)
