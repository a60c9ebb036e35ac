use Rattle.std.proofs.Common.{◌≡◌, IfOk, subst}
use Rattle.std.specs.Prelude.{string_bytes}
use Rattle.dap_messages.specs.SeenAnswers.{look_body}
use Rattle.dap_messages.proofs.answer.look_body.Goals as goal

pub returns : goal.returns
returns c = λ bytes is.
    let words_now : string_bytes c.in_ok-words.words ≡ bytes = subst (λ r. IfOk r (λ s. string_bytes s ≡ bytes)) c.in_ok-words.was is in
    λ i. look_body c.args.address (words_now i)
