use Rattle.dap_messages.proofs.values.source.Goals as goal

pub returns : goal.returns
returns c = c.build.ensures _ (c.word-2.ensures _ (c.word.ensures _ c.new.ensures))
