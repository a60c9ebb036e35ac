use Rattle.t65_runner.proofs.bench.run_called.Goals as goal

pub returns-in_ok-run_entered-in-Some-clause-since : goal.returns-in_ok-run_entered-in-Some-clause-since
returns-in_ok-run_entered-in-Some-clause-since c = λ s since. c.run_awaiting.ensures.since s (c.run_entered-in-Some.ensures.since s since)
