use Rattle.std.proofs.Common.{◌≡◌, ◌-◌}
use Rattle.mon_runs.specs.Looked.{pushed_at}
use Rattle.mon_runs.proofs.looked.pushed_at.Given as goal

abbrev pub invariant-loop-depth : goal.invariant-loop-depth
invariant-loop-depth l = pushed_at l.stops.watches.items l.stack 0 l.pushes
    ≡ pushed_at l.stops.watches.items l.stack l.depth (l.pushes - l.depth)
