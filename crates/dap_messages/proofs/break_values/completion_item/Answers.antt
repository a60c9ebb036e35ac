use Rattle.dap_messages.proofs.break_values.completion_item.Goals as goal

pub returns : goal.returns
returns c = c.build.ensures _ (c.word-2.ensures _ (c.count-2.ensures _ (c.count.ensures _ (c.word.ensures _ c.new.ensures))))
