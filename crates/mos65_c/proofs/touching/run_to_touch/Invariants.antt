use Rattle.std.proofs.Common.{◌≡◌, ◌-◌}
use Rattle.mos65_c.specs.Touching.{later, touching_run}
use Rattle.mos65_c.proofs.touching.run_to_touch.Given as goal

-- the whole run is what is left of it, after the steps so far
abbrev pub invariant-loop-did : goal.invariant-loop-did
invariant-loop-did l = touching_run l.marks l.limit l.fn.session
    ≡ later l.did (touching_run l.marks (l.limit - l.did) l.session)
