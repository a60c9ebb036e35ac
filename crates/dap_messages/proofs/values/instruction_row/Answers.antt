use Rattle.dap_messages.proofs.values.instruction_row.Goals as goal

pub returns : goal.returns
returns c = c.build.ensures _ (c.word-2.ensures _ (c.word.ensures _ (c.text.ensures _ _ c.new.ensures c.reference.ensures)))
