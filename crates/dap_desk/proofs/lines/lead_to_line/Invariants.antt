use Rattle.std.proofs.Common.{◌≡◌, ◌≤◌, ◌-◌, ◌*◌, ◌^◌}
use Rattle.dap_desk.specs.Lines.{into_run}
use Rattle.mon_runs.specs.Looked.{later}
use Rattle.dap_desk.proofs.lines.lead_to_line.Given as goal

-- the whole run is what is left of it, after the steps so far
abbrev pub invariant-loop : goal.invariant-loop
invariant-loop l = record {
  small : l.did ≤ l.counter * 2 ^ 33;
  left : into_run l.starts l.from l.fn.stops.watches.items l.limit (l.fn.session, l.fn.stops.breaks.items)
      ≡ later l.did (into_run l.starts l.from l.fn.stops.watches.items (l.limit - l.counter) (l.session, l.stops.breaks.items));
  watches : l.stops.watches ≡ l.fn.stops.watches;
  changes : l.stops.changes ≡ l.fn.stops.changes;
}
