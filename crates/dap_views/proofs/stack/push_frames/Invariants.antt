use Rattle.std.proofs.Common.{◌≡◌, ◌≤◌, ◌++◌, ◌-◌}
use Rattle.dap_views.specs.Frames.{frames_from}
use Rattle.dap_views.proofs.stack.push_frames.Given as goal

abbrev pub invariant-loop : goal.invariant-loop
invariant-loop l = record {
  within : l.address ≤ 514;
  rest : l.frames.items ++ frames_from (256 - l.counter) l.session.current.bus.memory l.places.lines l.address
      ≡ l.initial.frames.items ++ frames_from 256 l.session.current.bus.memory l.places.lines l.first;
}
