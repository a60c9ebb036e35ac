use Rattle.std.proofs.Common.{subst, sym}
use Rattle.t65_runner.specs.Start.{IsSince}
use Rattle.t65_runner.proofs.Since.{breaks_run, since_run}
use Rattle.t65_runner.proofs.requests.run_back.Goals as goal

pub returns-in-Ok-clause-since : goal.returns-in-Ok-clause-since
returns-in-Ok-clause-since c = λ s since. since_run s c.args.limit c.args.session.now c.run_to.new.session c.in-Ok.end c.requires.stops c.in-Ok.ensures.ok since

pub returns-in-Ok-clause-stops : goal.returns-in-Ok-clause-stops
returns-in-Ok-clause-stops c = breaks_run c.args.limit c.args.session.now c.run_to.new.session c.in-Ok.end c.requires.stops c.in-Ok.ensures.ok

pub returns-in-Err-clause-since : goal.returns-in-Err-clause-since
returns-in-Err-clause-since c = λ s since. subst (IsSince s) (sym c.in-Err.ensures.err.0) since
