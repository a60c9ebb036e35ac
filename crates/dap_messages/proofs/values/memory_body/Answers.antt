use Rattle.dap_messages.proofs.values.memory_body.Goals as goal

pub returns : goal.returns
returns c = c.build.ensures _ (c.count.ensures _ (c.word.ensures _ (c.text.ensures _ _ c.new.ensures c.reference.ensures)))
