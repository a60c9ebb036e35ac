use Rattle.t65_runner.proofs.counting.count_call.Goals as goal

pub returns-in_err-run_entered-clause-since : goal.returns-in_err-run_entered-clause-since
returns-in_err-run_entered-clause-since c = λ s since. c.run_entered.ensures.since s (c.given_all.ensures.since s since)

pub returns-clause-since : goal.returns-clause-since
returns-clause-since c = λ s since. c.count_all.ensures.since s (c.run_entered.ensures.since s (c.given_all.ensures.since s since))
