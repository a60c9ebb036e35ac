use Rattle.std.proofs.Common.{arith}
use Rattle.mon_session.proofs.Steps.{steps_noted}
use Rattle.mon_session.proofs.events.Events.note_steps.Goals as goal

pub returns : goal.returns
returns c = rw (c.push_steps.ensures, c.clear.ensures, c.min-most.ensures, c.capacity.ensures.capacity, ← c.self.view_is)
    (steps_noted c.args.count c.self.inside.made.items c.self.inside.undone.items c.self.inside.made.capacity (omega arith))
