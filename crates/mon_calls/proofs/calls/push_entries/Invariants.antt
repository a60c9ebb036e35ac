use Rattle.std.proofs.Common.{◌≡◌, ◌≤◌, ◌++◌, ◌-◌}
use Rattle.mon_calls.specs.Calls.{entry_line}
use Rattle.mon_texts.specs.Pushed.{entries, entry_len}
use Rattle.mon_calls.proofs.calls.push_entries.Given as goal

abbrev pub invariant-loop : goal.invariant-loop
invariant-loop l = record {
  within : l.address ≤ 514;
  rest : l.text.items
      ++ entries (256 - l.counter) (entry_line l.session.current l.places) (entry_len l.session.current.bus.memory l.places.lines) l.address
      ≡ l.initial.text.items
      ++ entries 256 (entry_line l.session.current l.places) (entry_len l.session.current.bus.memory l.places.lines) l.first;
}
