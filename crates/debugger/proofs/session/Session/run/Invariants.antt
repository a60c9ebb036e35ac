use Rattle.std.proofs.Common.{◌≡◌, ◌-◌, ◌≤◌}
use Rattle.model.specs.Run.{run_end, after_steps}
use Rattle.debugger.specs.Running.{beyond}
use Rattle.debugger.proofs.session.Session.run.Given as goal

-- the whole run is what is left of it, after the steps so far
abbrev pub invariant-loop-did : goal.invariant-loop-did
invariant-loop-did l = record {
  within : l.did ≤ l.count;
  end : run_end l.count l.fn.self ≡ beyond l.did (run_end (l.count - l.did) l.self);
  after : l.self ≡ after_steps l.did l.fn.self;
}

abbrev pub decreases-loop-did : goal.decreases-loop-did
decreases-loop-did l = l.count - l.did
