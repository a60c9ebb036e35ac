use Rattle.std.proofs.Common.{◌≡◌, IfOk, subst}
use Rattle.std.specs.Prelude.{string_bytes}
use Rattle.dap_messages.specs.SeenAnswers.{plain_variable}
use Rattle.dap_messages.proofs.item.plain_variable.Goals as goal

pub returns : goal.returns
returns c = λ bytes is.
    let value_now : string_bytes c.in_ok-value.value ≡ bytes = subst (λ r. IfOk r (λ s. string_bytes s ≡ bytes)) c.in_ok-value.was is in
    λ i. plain_variable (c.in_ok-name.ensures.ok i) (value_now i)
