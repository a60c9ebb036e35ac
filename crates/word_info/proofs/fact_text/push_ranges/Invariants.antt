use Rattle.std.proofs.Common.{◌≡◌, ◌++◌, drop, length}
use Rattle.std.specs.Prelude.{string_bytes}
use Rattle.std.specs.List.{flat_map, zip}
use Rattle.word_info.specs.Rows.{range_row}
use Rattle.word_info.proofs.fact_text.push_ranges.Given as goal

abbrev pub invariant-loop-range : goal.invariant-loop-range
invariant-loop-range l = string_bytes l.words ++ flat_map range_row (drop (length l.yielded) (zip l.facts.ranges.items l.facts.checksums.items))
    ≡ string_bytes l.initial.words ++ flat_map range_row (zip l.facts.ranges.items l.facts.checksums.items)
