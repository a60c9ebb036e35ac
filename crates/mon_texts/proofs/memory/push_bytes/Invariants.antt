use Rattle.std.proofs.Common.{◌≡◌, ◌++◌, ◌+◌, ◌-◌}
use Rattle.std.specs.List.{flat_map}
use Rattle.mon_instructions.specs.Instructions.{byte_column}
use Rattle.mon_texts.specs.Memory.{bytes_from}
use Rattle.mon_texts.proofs.memory.push_bytes.Given as goal

abbrev pub invariant-loop-offset : goal.invariant-loop-offset
invariant-loop-offset l = l.text.items ++ flat_map byte_column (bytes_from l.session.current.bus.memory (l.first + l.offset) (l.count - l.offset))
    ≡ l.initial.text.items ++ flat_map byte_column (bytes_from l.session.current.bus.memory l.first l.count)
