use Rattle.std.proofs.Common.{subst, sym}
use Rattle.t65_runner.specs.Start.{IsSince}
use Rattle.t65_runner.proofs.Since.{since_state}
use Rattle.t65_runner.proofs.Counted.{ends, goes_on, step_rejected}
use Rattle.t65_runner.proofs.counting.count_step.Goals as goal

pub returns-in-Ok-clause-on : goal.returns-in-Ok-clause-on
returns-in-Ok-clause-on c = λ on next.
    goes_on c.args.session.now c.event.new.self c.in-Ok.ensures.ok.0 c.moment_of-before.result c.args.tally.now c.note.new.tally c.is_back.result next
    c.in-Ok.ensures.ok.1 c.in-Ok.ensures.ok.2 c.moment_of-before.ensures c.note.ensures c.is_back.ensures on

pub returns-in-Ok-clause-since : goal.returns-in-Ok-clause-since
returns-in-Ok-clause-since c = λ s since. subst (IsSince s) (sym c.in-Ok.ensures.ok.2) (since_state s c.args.session.now c.in-Ok.ensures.ok.0 since)

pub returns-in-Ok-clause-end : goal.returns-in-Ok-clause-end
returns-in-Ok-clause-end c = λ off next.
    ends c.args.session.now c.event.new.self c.in-Ok.ensures.ok.0 c.moment_of-before.result c.args.tally.now c.note.new.tally c.is_back.result next
    c.in-Ok.ensures.ok.1 c.in-Ok.ensures.ok.2 c.moment_of-before.ensures c.note.ensures c.is_back.ensures off

pub returns-in-Err-clause-end : goal.returns-in-Err-clause-end
returns-in-Err-clause-end c = λ off next.
    step_rejected c.args.session.now c.event.new.self c.in-Err.field-0 c.args.tally.now next c.in-Err.ensures.err.0 c.in-Err.ensures.err.1
