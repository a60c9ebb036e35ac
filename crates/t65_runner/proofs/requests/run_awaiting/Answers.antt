use Rattle.t65_runner.proofs.requests.run_awaiting.Goals as goal

pub returns-in_err-end-in-Due-clause-since : goal.returns-in_err-end-in-Due-clause-since
returns-in_err-end-in-Due-clause-since c = λ s since. c.run_back.ensures.since s (c.arrive.ensures.since s (c.wait_for.ensures.since s since))

pub returns-in_ok-end-in-Due-clause-since : goal.returns-in_ok-end-in-Due-clause-since
returns-in_ok-end-in-Due-clause-since c = λ s since. c.run_back.ensures.since s (c.arrive.ensures.since s (c.wait_for.ensures.since s since))
