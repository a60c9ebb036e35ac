use Rattle.std.proofs.Common.{◌≡◌, ◌++◌, drop}
use Rattle.std.specs.Prelude.{string_bytes}
use Rattle.std.specs.List.{flat_map}
use Rattle.word_info.specs.Rows.{region_row}
use Rattle.word_info.proofs.fact_text.push_regions.Given as goal

abbrev pub invariant-loop-region : goal.invariant-loop-region
invariant-loop-region l = string_bytes l.words ++ flat_map region_row (drop l.region-index l.regions) ≡ string_bytes l.initial.words
    ++ flat_map region_row l.regions
