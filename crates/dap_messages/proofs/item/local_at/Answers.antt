use Rattle.std.proofs.Common.{◌≡◌, IfOk, subst}
use Rattle.std.specs.Prelude.{string_bytes}
use Rattle.dap_messages.specs.SeenAnswers.{local_at}
use Rattle.dap_messages.proofs.item.local_at.Goals as goal

pub returns : goal.returns
returns c = λ n b is_n is_b.
    let name_now : string_bytes c.in_ok-name.name ≡ n = subst (λ r. IfOk r (λ s. string_bytes s ≡ n)) c.in_ok-name.was is_n in
    let value_now : string_bytes c.in_ok-value.value ≡ b = subst (λ r. IfOk r (λ s. string_bytes s ≡ b)) c.in_ok-value.was is_b in
    λ i. local_at (name_now i) c.args.address (value_now i)
