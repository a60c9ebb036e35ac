use Rattle.std.proofs.Common.{◌≡◌, ◌-◌, ◌++◌, length, take, drop}
use Rattle.circular_buffer.specs.Buffer.{buffer}
use Rattle.mon_session.proofs.events.move_last.Given as goal

abbrev pub invariant-loop : goal.invariant-loop
invariant-loop l = record {
  rest : l.made ≡ buffer (take (length l.initial.made.items - l.counter) l.initial.made.items) l.initial.made.capacity;
  moved : l.undone ≡ buffer
      (drop (length l.initial.made.items - l.counter) l.initial.made.items ++ l.initial.undone.items) l.initial.undone.capacity;
}
