use Rattle.std.proofs.Common.{◌∷◌, [], refl}
use Rattle.std.proofs.lemmas.Result.{IfOk-weaker}
use Rattle.std.specs.Prelude.{string_bytes}
use Rattle.dap_messages.specs.declared.client_event.Category.TheVariants.{Console}
use Rattle.dap_session.specs.Told.{output_said}
use Rattle.dap_session.proofs.passing.with_line.Goals as goal

pub returns : goal.returns
returns c =
    let line = string_bytes c.in_ok-line.line in
    IfOk-weaker c.with_output.result _ _ (λ ms is. (output_said Console line ∷ [], (line, refl), is)) (c.with_output.ensures _ line refl refl)
