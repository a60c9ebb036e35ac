use Rattle.std.proofs.Common.{◌≡◌, List, ℕ, IfOk, subst}
use Rattle.std.specs.Prelude.{codes}
use Rattle.lsp_answers.specs.Items.{item_of}
use Rattle.serde_json.specs.View.{view}
use Rattle.lsp_answers.proofs.completing.mnemonic_item.Goals as goal

pub returns : goal.returns
returns c = subst (λ (word : List ℕ). IfOk c.item_of.result (λ v. view v ≡ item_of word 14 (codes "instruction") (codes "0"))) c.letters_of.ensures
    (c.item_of.ensures _ c.phrase.ensures)
