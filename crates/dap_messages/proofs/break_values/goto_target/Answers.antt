use Rattle.dap_messages.proofs.break_values.goto_target.Goals as goal

pub returns : goal.returns
returns c = c.build.ensures _ (c.count-2.ensures _
    (c.text-2.ensures _ _ (c.text.ensures _ _ (c.count.ensures _ c.new.ensures) c.reference.ensures) c.address_text.ensures))
