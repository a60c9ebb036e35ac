use Rattle.dap_messages.proofs.variable_values.plain_variable.Goals as goal

pub returns : goal.returns
returns c = c.build.ensures _ (c.count.ensures _ (c.word-2.ensures _ (c.word.ensures _ c.new.ensures)))
