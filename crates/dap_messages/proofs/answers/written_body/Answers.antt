use Rattle.dap_messages.proofs.answers.written_body.Goals as goal

pub returns : goal.returns
returns c = c.build.ensures _ (c.count.ensures _ c.new.ensures)
