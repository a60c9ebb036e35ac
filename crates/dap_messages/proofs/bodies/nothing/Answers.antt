use Rattle.dap_messages.proofs.bodies.nothing.Goals as goal

pub returns : goal.returns
returns c = c.build.ensures _ c.new.ensures
