use Rattle.std.proofs.Common.{◌∙◌, rules}
use Rattle.std.proofs.lemmas.Result.{IfOk-weaker}
use Rattle.lsp_hints.proofs.fixes.unused_fix.Goals as goal

pub returns : goal.returns
returns c = IfOk-weaker c.change_of.result _ _ (λ v is. is ∙ search rules) (c.change_of.ensures _ _ c.new-words.ensures.items c.unused_title-title.ensures)
