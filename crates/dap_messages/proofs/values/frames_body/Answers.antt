use Rattle.dap_messages.proofs.values.frames_body.Goals as goal

pub returns : goal.returns
returns c = λ ds is. c.build.ensures _ (c.count.ensures _ (c.member.ensures _ _ c.new.ensures is))
