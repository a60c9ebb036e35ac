use Rattle.std.proofs.Common.{ap, codes}
use Rattle.dap_messages.proofs.Shown.{item_as}
use Rattle.dap_views.specs.Variables.{number_variable}
use Rattle.dap_views.proofs.variables.machine.Goals as goal

pub returns : goal.returns
returns c = λ asked is.
    let cycles = item_as _ _ _ (ap (number_variable (codes "cycles")) c.cycles.ensures) c.number_variable.ensures in
    let held = item_as _ _ _ (ap (number_variable (codes "events held")) c.held.ensures.held) c.number_variable-2.ensures in
    let output = item_as _ _ _ (ap (number_variable (codes "bytes put out")) c.output_len.ensures) c.number_variable-3.ensures in
    c.with-3.ensures asked _ _ (c.with-2.ensures asked _ _ (c.with.ensures asked _ _ is cycles) held) output
