use Rattle.std.proofs.Common.{◌≡◌, ◌+◌, ◌-◌}
use Rattle.model.specs.Run.{after_steps}
use Rattle.mon_runs.specs.Looked.{later}
use Rattle.mon_runs.specs.PastBreaks.{run_past}
use Rattle.mon_runs.proofs.stretches.run_on.Given as goal

abbrev pub invariant-loop : goal.invariant-loop
invariant-loop l = record {
  sum : l.did + l.left ≡ l.count;
  made : l.session ≡ after_steps l.did l.fn.session;
  rest : run_past l.count l.count (l.fn.session, l.fn.stops.breaks.items)
      ≡ later l.did (run_past (l.count - l.counter) l.left (l.session, l.stops.breaks.items));
  watches : l.stops.watches ≡ l.fn.stops.watches;
  changes : l.stops.changes ≡ l.fn.stops.changes;
}
