use Rattle.std.proofs.Common.{sym, subst}
use Rattle.t65_runner.specs.Start.{IsSince}
use Rattle.t65_runner.proofs.Since.{breaks_call, since_call}
use Rattle.t65_runner.proofs.bench.called_at.Goals as goal

pub returns-in-Ok-clause-since : goal.returns-in-Ok-clause-since
returns-in-Ok-clause-since c = λ s since. since_call s c.args.address c.args.steps c.args.session.now c.call.new.session c.in-Ok.end c.requires.stops
    c.in-Ok.ensures.ok since

pub returns-in-Ok-clause-stops : goal.returns-in-Ok-clause-stops
returns-in-Ok-clause-stops c = breaks_call c.args.address c.args.steps c.args.session.now c.call.new.session c.in-Ok.end c.requires.stops c.in-Ok.ensures.ok

pub returns-in-Err-clause-since : goal.returns-in-Err-clause-since
returns-in-Err-clause-since c = λ s since. subst (IsSince s) (sym c.in-Err.ensures.err.0) since
