use Rattle.dap_messages.proofs.break_values.list_body.Goals as goal

pub returns : goal.returns
returns c = λ ds is. c.build.ensures _ (c.member.ensures _ _ c.new.ensures is)
