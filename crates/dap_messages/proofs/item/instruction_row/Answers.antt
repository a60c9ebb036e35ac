use Rattle.std.proofs.Common.{◌≡◌, IfOk, subst}
use Rattle.std.specs.Prelude.{string_bytes}
use Rattle.dap_messages.specs.SeenAnswers.{instruction_row}
use Rattle.dap_messages.proofs.item.instruction_row.Goals as goal

pub returns : goal.returns
returns c = λ b t is_b is_t.
    let bytes_now : string_bytes c.in_ok-bytes.bytes ≡ b = subst (λ r. IfOk r (λ s. string_bytes s ≡ b)) c.in_ok-bytes.was is_b in
    let text_now : string_bytes c.in_ok-text.text ≡ t = subst (λ r. IfOk r (λ s. string_bytes s ≡ t)) c.in_ok-text.was is_t in
    λ i. instruction_row c.args.address (bytes_now i) (text_now i)
