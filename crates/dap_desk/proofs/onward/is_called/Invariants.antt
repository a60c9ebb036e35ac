use Rattle.std.proofs.Common.{◌≡◌, ◌-◌}
use Rattle.dap_desk.specs.Onward.{has_line_call, is_called}
use Rattle.dap_desk.proofs.onward.is_called.Given as goal

abbrev pub invariant-loop-address : goal.invariant-loop-address
invariant-loop-address l = is_called l.session.current.bus.memory l.places.lines l.first
    ≡ has_line_call (512 - l.address) l.session.current.bus.memory l.places.lines l.address
