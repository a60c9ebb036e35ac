use Rattle.std.proofs.Common.{sym, ◌∙◌}
use Rattle.debugger.proofs.Trails.{length-held_states}
use Rattle.debugger.proofs.session.Session.held.Goals as goal

pub returns-clause-held : goal.returns-clause-held
returns-clause-held c =
    let t = c.self.inside.trail in
    rw (← c.self.view_is) (c.held_count.ensures ∙ sym (length-held_states t.held t.kept.items t.events.items c.self.inside.machine c.self.invariant.0.few))
