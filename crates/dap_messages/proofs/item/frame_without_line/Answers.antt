use Rattle.std.proofs.Common.{◌≡◌, IfOk, subst}
use Rattle.std.specs.Prelude.{string_bytes}
use Rattle.dap_messages.specs.SeenAnswers.{frame_without_line}
use Rattle.dap_messages.proofs.item.frame_without_line.Goals as goal

pub returns : goal.returns
returns c = λ w is.
    let words_now : string_bytes c.in_ok-words.words ≡ w = subst (λ r. IfOk r (λ s. string_bytes s ≡ w)) c.in_ok-words.was is in
    λ i. frame_without_line c.args.id c.args.address (words_now i)
