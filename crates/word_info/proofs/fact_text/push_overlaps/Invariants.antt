use Rattle.std.proofs.Common.{◌≡◌, ◌++◌, drop}
use Rattle.std.specs.Prelude.{string_bytes}
use Rattle.std.specs.List.{flat_map}
use Rattle.word_info.specs.Rows.{overlap_row}
use Rattle.word_info.proofs.fact_text.push_overlaps.Given as goal

abbrev pub invariant-loop-range : goal.invariant-loop-range
invariant-loop-range l = string_bytes l.words ++ flat_map overlap_row (drop l.range-index l.overlaps) ≡ string_bytes l.initial.words
    ++ flat_map overlap_row l.overlaps
