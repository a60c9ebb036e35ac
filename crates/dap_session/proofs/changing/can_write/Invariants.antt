use Rattle.std.proofs.Common.{◌≡◌, ◌+◌, drop}
use Rattle.model.specs.Event.{meets_port}
use Rattle.dap_session.proofs.changing.can_write.Given as goal

abbrev pub invariant-loop-index : goal.invariant-loop-index
invariant-loop-index l = meets_port l.session.current.bus.map l.address l.bytes
    ≡ meets_port l.session.current.bus.map (l.address + l.index) (drop l.index l.bytes)
