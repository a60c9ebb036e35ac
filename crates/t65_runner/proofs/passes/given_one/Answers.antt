use Rattle.t65_runner.proofs.Since.{since_answer}
use Rattle.t65_runner.proofs.passes.given_one.Goals as goal

pub returns-in-Some-clause-since : goal.returns-in-Some-clause-since
returns-in-Some-clause-since c = λ s since. since_answer s c.args.session.now c.event.new.self c.in-Some.event c.event.result since c.event.ensures.ok
    c.event.ensures.err
