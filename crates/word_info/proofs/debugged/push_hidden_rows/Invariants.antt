use Rattle.std.proofs.Common.{◌≡◌, ◌++◌, drop, map, option_map}
use Rattle.std.specs.Prelude.{string_bytes}
use Rattle.debug_records.specs.Views.{segment_view}
use Rattle.word_info.specs.Debugged.{hidden_rows}
use Rattle.word_info.proofs.debugged.push_hidden_rows.Given as goal

abbrev pub invariant-loop-range : goal.invariant-loop-range
invariant-loop-range l = string_bytes l.words ++ hidden_rows (map (option_map segment_view) l.segments) (drop l.range-index l.ranges)
    ≡ string_bytes l.initial.words ++ hidden_rows (map (option_map segment_view) l.segments) l.ranges
