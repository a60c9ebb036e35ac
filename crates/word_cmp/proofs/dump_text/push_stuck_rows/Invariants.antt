use Rattle.std.proofs.Common.{◌≡◌, ◌++◌, drop}
use Rattle.std.specs.Prelude.{string_bytes}
use Rattle.std.specs.List.{flat_map}
use Rattle.word_cmp.specs.DumpRows.{stuck_row}
use Rattle.word_cmp.specs.Sides.{side_view}
use Rattle.word_cmp.proofs.dump_text.push_stuck_rows.Given as goal

abbrev pub invariant-loop-stuck : goal.invariant-loop-stuck
invariant-loop-stuck l = string_bytes l.words ++ flat_map (stuck_row (side_view l.one) (side_view l.other)) (drop l.stuck-index l.stuck-items)
    ≡ string_bytes l.initial.words ++ flat_map (stuck_row (side_view l.one) (side_view l.other)) l.stuck-items
