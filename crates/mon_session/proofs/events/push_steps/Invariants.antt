use Rattle.std.proofs.Common.{◌≡◌, ◌++◌, replicate}
use Rattle.model.specs.declared.event.Event.TheVariants.{Step}
use Rattle.circular_buffer.specs.Buffer.{buffer, keep_last}
use Rattle.mon_session.proofs.events.push_steps.Given as goal

abbrev pub invariant-loop : goal.invariant-loop
invariant-loop l = l.made ≡ buffer
    (keep_last l.initial.made.capacity (l.initial.made.items ++ replicate l.counter Step)) l.initial.made.capacity
