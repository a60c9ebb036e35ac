use Rattle.dap_session.proofs.console.with_terminated.Goals as goal

pub returns : goal.returns
returns c = λ before is. c.with_event.ensures before is
