use Rattle.std.proofs.Common.{◌≡◌, IfOk, subst}
use Rattle.std.specs.Prelude.{string_bytes}
use Rattle.dap_messages.specs.SeenAnswers.{memory_body}
use Rattle.dap_messages.proofs.answer.memory_body.Goals as goal

pub returns : goal.returns
returns c = λ bytes is.
    let text_now : string_bytes c.in_ok-text.text ≡ bytes = subst (λ r. IfOk r (λ s. string_bytes s ≡ bytes)) c.in_ok-text.was is in
    λ i. memory_body c.args.address (text_now i) c.args.unread
