use Rattle.t65_runner.proofs.bench.run_call.Goals as goal

pub returns-in_err-called-clause-since : goal.returns-in_err-called-clause-since
returns-in_err-called-clause-since c = λ s since. c.run_called.ensures.since s (c.given_all.ensures.since s since)

pub returns-then-regs-before-clause-since : goal.returns-then-regs-before-clause-since
returns-then-regs-before-clause-since c = λ s since. c.run_called.ensures.since s (c.given_all.ensures.since s since)

pub returns-else-regs-before-clause-since : goal.returns-else-regs-before-clause-since
returns-else-regs-before-clause-since c = λ s since. c.run_called.ensures.since s (c.given_all.ensures.since s since)
