use Rattle.std.proofs.Common.{◌≡◌, drop, false, map, option_map}
use Rattle.debug_records.specs.Rows.{is_shared}
use Rattle.debug_records.specs.Views.{segment_view}
use Rattle.debug_records.proofs.rows.is_shared.Given as goal

abbrev pub invariant-loop-segment : goal.invariant-loop-segment
invariant-loop-segment l = record {
  rest : is_shared l.row false (map (option_map segment_view) l.segments)
      ≡ is_shared l.row l.is_found (map (option_map segment_view) (drop l.segment-index l.segments));
}
