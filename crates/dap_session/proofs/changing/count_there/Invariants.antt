use Rattle.std.proofs.Common.{◌≡◌, ◌+◌, drop}
use Rattle.dap_session.specs.Changes.{count_there}
use Rattle.dap_session.proofs.changing.count_there.Given as goal

abbrev pub invariant-loop-byte : goal.invariant-loop-byte
invariant-loop-byte l = record {
  counted : count_there l.session.current.bus.memory l.address l.bytes
      ≡ l.count + count_there l.session.current.bus.memory (l.address + l.count) (drop l.byte-index l.bytes);
  same : l.count ≡ l.byte-index;
}
