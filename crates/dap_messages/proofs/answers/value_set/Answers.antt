use Rattle.dap_messages.proofs.answers.value_set.Goals as goal

pub returns : goal.returns
returns c = c.build.ensures _ (c.count.ensures _ (c.word.ensures _ c.new.ensures))
