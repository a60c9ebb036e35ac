use Rattle.dap_session.proofs.answering.let_go.Goals as goal

pub returns-in-Ok : goal.returns-in-Ok
returns-in-Ok c = (c.in-Ok.value, c.in-Ok.is)
