use Rattle.std.proofs.Common.{◌≡◌, ◌∙◌, IfOk, subst}
use Rattle.std.specs.Prelude.{string_bytes}
use Rattle.dap_messages.proofs.Shown.{item_as}
use Rattle.dap_views.specs.Variables.{byte_variable}
use Rattle.dap_views.proofs.variables.byte_named.Goals as goal

pub returns : goal.returns
returns c = λ bytes is.
    let now : string_bytes c.in_ok-name.name ≡ bytes = subst (λ r. IfOk r (λ s. string_bytes s ≡ bytes)) c.in_ok-name.was is in
    item_as _ _ _ (λ i. byte_variable ((c.as_str.ensures.value ∙ now) i) c.args.address c.args.byte) c.byte_variable.ensures
