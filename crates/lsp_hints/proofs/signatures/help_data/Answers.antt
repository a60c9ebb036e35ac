use Rattle.std.proofs.Common.{◌∙◌, ap, ℕ}
use Rattle.std.proofs.lemmas.Result.{IfOk-weaker}
use Rattle.json_messages.specs.Values.{list_of}
use Rattle.lsp_hints.specs.Signatures.{forms_of, help_data}
use Rattle.lsp_hints.proofs.signatures.help_data.Goals as goal

pub returns : goal.returns
returns c =
    let told = c.build.ensures _ (c.member.ensures _ _ (c.count.ensures _ c.new.ensures) c.forms_of.ensures) in
    let forms = list_of (forms_of c.args.profile c.args.operation) in
    IfOk-weaker c.build.result _ _ (λ v is. is ∙ ap (λ (n : ℕ). help_data n forms) c.meant_of.ensures) told
