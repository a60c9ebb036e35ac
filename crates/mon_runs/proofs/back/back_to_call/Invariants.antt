use Rattle.std.proofs.Common.{◌≡◌, ◌+◌, ◌-◌, length}
use Rattle.mon_runs.specs.Back.{gone_over}
use Rattle.mon_runs.specs.Runs.{gone_back}
use Rattle.mon_runs.proofs.Way.{sooner}
use Rattle.mon_runs.proofs.back.back_to_call.Given as goal

abbrev pub invariant-loop-undone : goal.invariant-loop-undone
invariant-loop-undone l = record {
  held : length l.session.earlier + l.undone ≡ length l.fn.session.earlier;
  gone : l.session ≡ gone_back l.undone l.fn.session;
  over : gone_over l.stack l.most l.fn.session
      ≡ sooner l.undone (gone_over l.stack (l.most - l.undone) l.session);
}
