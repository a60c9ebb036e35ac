use Rattle.std.proofs.Common.{◌≡◌, ◌++◌, ◌+◌, ◌-◌, ◌/◌}
use Rattle.std.specs.List.{flat_map, range_with_len}
use Rattle.mon_texts.specs.Memory.{memory_rows, numbered_row}
use Rattle.mon_texts.proofs.memory.push_rows.Given as goal

abbrev pub invariant-loop-row : goal.invariant-loop-row
invariant-loop-row l = l.text.items ++ flat_map (numbered_row l.session.current.bus.memory l.first l.count)
    (range_with_len l.row ((l.count + 15) / 16 - l.row)) ≡ l.initial.text.items ++ memory_rows l.session.current.bus.memory l.first l.count
