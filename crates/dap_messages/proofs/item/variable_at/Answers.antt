use Rattle.std.proofs.Common.{◌≡◌, IfOk, subst}
use Rattle.std.specs.Prelude.{string_bytes}
use Rattle.dap_messages.specs.SeenAnswers.{variable_at}
use Rattle.dap_messages.proofs.item.variable_at.Goals as goal

pub returns : goal.returns
returns c = λ bytes is.
    let value_now : string_bytes c.in_ok-value.value ≡ bytes = subst (λ r. IfOk r (λ s. string_bytes s ≡ bytes)) c.in_ok-value.was is in
    λ i. variable_at (c.in_ok-name.ensures.ok i) c.args.address (value_now i)
