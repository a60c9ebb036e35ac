use Rattle.std.proofs.Common.{◌∙◌, List, Option, ap₂, ℕ}
use Rattle.std.proofs.lemmas.Result.{IfOk-weaker}
use Rattle.lsp_hints.specs.Signatures.{help_of}
use Rattle.lsp_hints.specs.declared.operation.Operation.{Operation}
use Rattle.lsp_hints.proofs.signatures.signatures_at.Goals as goal

pub returns-in-Some : goal.returns-in-Some
returns-in-Some c =
    let at = rw c.column_of.ensures.column at c.in-Some.ensures in
    IfOk-weaker c.help_data.result _ _
    (λ v is. is ∙ ap₂ (λ (operand : List ℕ) (o : Option Operation). help_of c.args.profile operand o) c.operand_of.ensures at) c.help_data.ensures
