use Rattle.std.proofs.Common.{◌≡◌, ◌++◌, ◌+◌, ◌-◌}
use Rattle.mon_texts.specs.Memory.{bytes_from}
use Rattle.dap_views.proofs.memory.bytes_text.Given as goal

abbrev pub invariant-loop-offset : goal.invariant-loop-offset
invariant-loop-offset l = l.bytes.items ++ bytes_from l.session.current.bus.memory (l.first + l.offset) (l.count - l.offset)
    ≡ bytes_from l.session.current.bus.memory l.first l.count
