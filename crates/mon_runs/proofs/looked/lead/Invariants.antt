use Rattle.std.proofs.Common.{◌≡◌, ◌≤◌, ◌-◌, ◌*◌, ◌^◌}
use Rattle.model.specs.Run.{after_steps}
use Rattle.mon_runs.specs.Looked.{later, looked_run}
use Rattle.mon_runs.proofs.looked.lead.Given as goal

-- the whole run is what is left of it, after the steps so far
abbrev pub invariant-loop : goal.invariant-loop
invariant-loop l = record {
  small : l.did ≤ l.counter * 2 ^ 33;
  made : l.session ≡ after_steps l.did l.fn.session;
  left : looked_run l.fn.stops.watches.items l.goal l.until l.limit (l.fn.session, l.fn.stops.breaks.items)
      ≡ later l.did (looked_run l.fn.stops.watches.items l.goal l.until (l.limit - l.counter) (l.session, l.stops.breaks.items));
  watches : l.stops.watches ≡ l.fn.stops.watches;
  changes : l.stops.changes ≡ l.fn.stops.changes;
}
