use Rattle.std.proofs.Common.{◌≡◌, ◌++◌, drop}
use Rattle.std.specs.Prelude.{string_bytes}
use Rattle.std.specs.List.{flat_map}
use Rattle.word_cmp.specs.DumpRows.{fault_row}
use Rattle.word_cmp.specs.Sides.{side_view}
use Rattle.word_cmp.proofs.dump_text.push_fault_rows.Given as goal

abbrev pub invariant-loop-fault : goal.invariant-loop-fault
invariant-loop-fault l = string_bytes l.words ++ flat_map (fault_row (side_view l.one) (side_view l.other)) (drop l.fault-index l.fault-items)
    ≡ string_bytes l.initial.words ++ flat_map (fault_row (side_view l.one) (side_view l.other)) l.fault-items
