use Rattle.dap_views.proofs.variables.registers.Goals as goal

pub returns : goal.returns
returns c = λ asked is.
    let three = c.with-3.ensures asked _ _ (c.with-2.ensures asked _ _ (c.with.ensures asked _ _ is c.register_variable.ensures)
    c.register_variable-2.ensures) c.register_variable-3.ensures in
    c.with-6.ensures asked _ _ (c.with-5.ensures asked _ _ (c.with-4.ensures asked _ _ three c.register_variable-4.ensures)
    c.register_variable-5.ensures) c.register_variable-6.ensures
