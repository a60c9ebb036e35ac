use Rattle.std.proofs.Common.{◌∙◌, Some, ap}
use Rattle.dap_messages.specs.Requests.{scope_expressed}
use Rattle.dap_messages.specs.Seen.{set_variable}
use Rattle.dap_messages.proofs.reading.expression_change.Goals as goal

pub returns : goal.returns
returns c = λ i. set_variable (Some ((c.scope_expressed.ensures ∙ ap scope_expressed c.text_or-name.ensures) i)) (c.text_or-name.ensures i)
    (c.text_or-value.ensures i)
