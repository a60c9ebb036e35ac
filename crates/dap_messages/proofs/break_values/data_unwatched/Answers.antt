use Rattle.dap_messages.proofs.break_values.data_unwatched.Goals as goal

pub returns : goal.returns
returns c = c.build.ensures _ (c.flag.ensures _ (c.word.ensures _ c.new.ensures))
