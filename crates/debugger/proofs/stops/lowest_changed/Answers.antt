use Rattle.std.proofs.Common.{sym, ◌∙◌}
use Rattle.debugger.proofs.Watching.{no_cell, no_watch}
use Rattle.debugger.proofs.stops.lowest_changed.Goals as goal

pub returns-then-change-eq0 : goal.returns-then-change-eq0
returns-then-change-eq0 c = sym (no_cell c.args.watches.now c.args.change.now c.args.machine.now c.if-change-eq0.true)

pub returns-then-len-eq0 : goal.returns-then-len-eq0
returns-then-len-eq0 c = sym (no_watch c.args.watches.now c.args.change.now c.args.machine.now (sym c.len.ensures ∙ c.if-len-eq0.true))
