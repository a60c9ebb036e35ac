use Rattle.std.proofs.Common.{◌≡◌}
use Rattle.line_steps.specs.Forwards.{is_line_on}
use Rattle.line_steps.proofs.Calling.{IsCall}
use Rattle.line_steps.proofs.Counted.{NoneTo}
use Rattle.mon_by_line.proofs.Lines.{IsOn}
use Rattle.mon_by_line.proofs.line_runs.lead_to_line.Given as goal

abbrev pub invariant-loop-done : goal.invariant-loop-done
invariant-loop-done l = record {
  on : IsOn l.fn.stops.watches.items (l.fn.session, l.fn.stops.breaks.items) (l.session, l.stops.breaks.items) l.done;
  call : IsCall l.fn.session l.done l.call;
  first : NoneTo (is_line_on l.lines l.line l.fn.session) l.done;
  watches : l.stops.watches ≡ l.fn.stops.watches;
  changes : l.stops.changes ≡ l.fn.stops.changes;
}
