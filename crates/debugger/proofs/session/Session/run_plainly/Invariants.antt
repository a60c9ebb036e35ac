use Rattle.std.proofs.Common.{◌≡◌, ◌-◌, ◌≤◌}
use Rattle.model.specs.Run.{after_steps}
use Rattle.cpu.specs.PlainRuns.{RanPlainly}
use Rattle.debugger.proofs.session.Session.run_plainly.Given as goal

abbrev pub invariant-loop-ran : goal.invariant-loop-ran
invariant-loop-ran l = record {
  within : l.ran.steps ≤ l.limit;
  session : l.self ≡ after_steps l.ran.steps l.fn.self;
  ran : RanPlainly l.stops l.marks l.ran l.fn.self.current l.self.current;
}

abbrev pub decreases-loop-ran : goal.decreases-loop-ran
decreases-loop-ran l = l.limit - l.ran.steps
