use Rattle.std.proofs.Common.{◌≡◌, ◌-◌}
use Rattle.model.specs.State.{State}
use Rattle.t65_runner.specs.Requests.{waited}
use Rattle.t65_runner.specs.Start.{IsSince}
use Rattle.t65_runner.proofs.requests.wait_for.Given as goal

abbrev pub invariant-loop-did : goal.invariant-loop-did
invariant-loop-did l = record {
  left : waited l.awaited l.did (l.limit - l.did) l.session ≡ waited l.awaited 0 l.limit l.fn.session;
  since : (s : State) → IsSince s l.fn.session → IsSince s l.session;
  stops : l.session.breaks ≡ l.fn.session.breaks;
}
