use Rattle.t65_runner.proofs.counting.count_all.Goals as goal

pub returns-in-Some-Some-clause-since : goal.returns-in-Some-Some-clause-since
returns-in-Some-Some-clause-since c = λ s since. c.count_steps.ensures.since s (c.arrive.ensures.since s (c.count_steps-left.ensures.since s since))
