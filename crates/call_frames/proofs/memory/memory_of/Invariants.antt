use Rattle.std.proofs.Common.{◌≡◌, take}
use Rattle.call_frames.proofs.memory.memory_of.Given as goal

abbrev pub invariant-loop-address : goal.invariant-loop-address
invariant-loop-address l = l.memory.items ≡ take l.address l.session.current.bus.memory
