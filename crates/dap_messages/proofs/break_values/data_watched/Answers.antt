use Rattle.dap_messages.proofs.break_values.data_watched.Goals as goal

pub returns : goal.returns
returns c = c.build.ensures _ (c.flag.ensures _ c.new.ensures)
