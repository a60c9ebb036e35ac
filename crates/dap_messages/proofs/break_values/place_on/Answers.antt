use Rattle.dap_messages.proofs.break_values.place_on.Goals as goal

pub returns : goal.returns
returns c = c.build.ensures _ (c.count.ensures _ c.new.ensures)
