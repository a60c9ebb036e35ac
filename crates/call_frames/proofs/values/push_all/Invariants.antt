use Rattle.std.proofs.Common.{◌≡◌, ◌-◌, ◌++◌}
use Rattle.std.specs.List.{flat_map}
use Rattle.call_frames.specs.Values.{byte_behind_blank, bytes_of}
use Rattle.call_frames.proofs.values.push_all.Given as goal

abbrev pub invariant-loop : goal.invariant-loop
invariant-loop l = l.text.items ++ flat_map byte_behind_blank (bytes_of l.session.current.bus.memory l.at (l.count - l.counter))
    ≡ l.initial.text.items ++ flat_map byte_behind_blank (bytes_of l.session.current.bus.memory l.address l.count)
