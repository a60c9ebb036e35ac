use Rattle.std.proofs.Common.{◌≡◌, IfOk, subst}
use Rattle.std.specs.Prelude.{string_bytes}
use Rattle.dap_messages.specs.SeenAnswers.{no_instruction}
use Rattle.dap_messages.proofs.item.no_instruction.Goals as goal

pub returns : goal.returns
returns c = λ a is.
    let address_now : string_bytes c.in_ok-address.address ≡ a = subst (λ r. IfOk r (λ s. string_bytes s ≡ a)) c.in_ok-address.was is in
    λ i. no_instruction (address_now i)
