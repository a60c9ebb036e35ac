use Rattle.std.proofs.Common.{◌∙◌, sym}
use Rattle.t65_runner.proofs.Waits.{is_rejected, leads_back, leads_on}
use Rattle.t65_runner.proofs.requests.wait_step.Goals as goal

pub returns-then-is_back-clause-end : goal.returns-then-is_back-clause-end
returns-then-is_back-clause-end c = λ next.
    leads_back c.args.did c.args.session.now c.event.new.self c.in-Ok.ensures.ok.0 next c.in-Ok.ensures.ok.1 c.in-Ok.ensures.ok.2
    (sym c.is_back.ensures ∙ c.if-is_back.true)

pub returns-else-is_back-clause-on : goal.returns-else-is_back-clause-on
returns-else-is_back-clause-on c = λ none next.
    leads_on c.args.did c.args.session.now c.event.new.self c.in-Ok.ensures.ok.0 next c.in-Ok.ensures.ok.1 c.in-Ok.ensures.ok.2
    (sym c.is_back.ensures ∙ c.if-is_back.false)

pub returns-in-Err-clause-end : goal.returns-in-Err-clause-end
returns-in-Err-clause-end c = λ next. is_rejected c.args.did c.args.session.now c.event.new.self c.in-Err.fault next c.in-Err.ensures.err.0
    c.in-Err.ensures.err.1
