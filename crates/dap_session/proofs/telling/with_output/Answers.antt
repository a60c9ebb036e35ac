use Rattle.std.proofs.Common.{◌≡◌, ◌∷◌, ◌++◌, ℕ, [], IfOk, List, map, subst}
use Rattle.std.specs.Prelude.{string_bytes}
use Rattle.dap_messages.specs.Messages.{said_of}
use Rattle.dap_session.specs.Told.{output_said}
use Rattle.dap_session.proofs.telling.with_output.Goals as goal

pub returns : goal.returns
returns c = λ before bytes is is_text.
    let now : string_bytes c.in_ok-text.text ≡ bytes = subst (λ r. IfOk r (λ s. string_bytes s ≡ bytes)) c.in_ok-text.was is_text in
    subst (λ (b : List ℕ). IfOk c.with_event.result (λ ms. map said_of ms.items ≡ before ++ output_said c.args.category b ∷ [])) now
    (c.with_event.ensures before is)
