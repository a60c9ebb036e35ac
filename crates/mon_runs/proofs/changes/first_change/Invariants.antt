use Rattle.std.proofs.Common.{◌≡◌, drop}
use Rattle.mon_runs.specs.Stops.{register_change}
use Rattle.mon_runs.proofs.changes.first_change.Given as goal

abbrev pub invariant-loop-watch : goal.invariant-loop-watch
invariant-loop-watch l = record {
  rest : register_change l.watches l.before l.after
      ≡ register_change (drop l.watch-index l.watches) l.before l.after;
}
