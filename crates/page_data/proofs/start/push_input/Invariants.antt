use Rattle.std.proofs.Common.{◌≡◌, ◌++◌, take}
use Rattle.page_data.proofs.start.push_input.Given as goal

abbrev pub invariant-loop-index : goal.invariant-loop-index
invariant-loop-index l = l.written.items ≡ l.initial.written.items ++ take l.index l.session.current.bus.given
