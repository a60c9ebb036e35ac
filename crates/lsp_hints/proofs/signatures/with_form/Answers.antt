use Rattle.std.proofs.Common.{◌∙◌, ◌++◌, ℕ, Option, subst, sym}
use Rattle.json_messages.specs.ValueLists.{HasValues}
use Rattle.lsp_hints.specs.Signatures.{form_by}
use Rattle.opcode_facts.specs.Forms.{operand_form}
use Rattle.lsp_hints.proofs.signatures.with_form.Goals as goal

pub returns-in-Some : goal.returns-in-Some
returns-in-Some c ds has =
    subst (λ (code : Option ℕ). HasValues (ds ++ form_by c.args.mnemonic (operand_form c.args.mode) code) c.with.result)
    (sym c.in-Some.is ∙ c.encode_in.ensures.code)
    (rw (← c.letters_of.ensures, ← c.operand_form.ensures) (c.with.ensures ds _ has (c.signature.ensures _ (c.text_of.ensures _ c.describe-label.ensures))))
