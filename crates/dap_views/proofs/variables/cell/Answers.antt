use Rattle.std.proofs.Common.{ap}
use Rattle.dap_messages.specs.Texts.{address_text}
use Rattle.dap_messages.proofs.Shown.{item_as}
use Rattle.dap_views.specs.Variables.{byte_variable}
use Rattle.dap_views.proofs.variables.cell.Goals as goal

pub returns : goal.returns
returns c = item_as _ _ _ (ap (byte_variable (address_text c.args.address) c.args.address) c.peek.ensures.value)
    (c.byte_named.ensures _ c.address_text-name.ensures)
