use Rattle.mon_runs.proofs.Apart.{set-other, made-apart}
use Rattle.mon_runs.proofs.runs.until.Goals as goal

pub returns-in-Ok-clause-steps : goal.returns-in-Ok-clause-steps
returns-in-Ok-clause-steps c =
    let apart = set-other c.args.address c.args.session.now c.set_break.new.self c.in-Ok.ensures.ok in
    made-apart c.lead_on-end.result.did c.args.session.now c.set_break.new.self c.lead_on-end.new.session c.clear_break.new.session apart.0 apart.1
    c.lead_on-end.ensures.steps c.clear_break.ensures.states
