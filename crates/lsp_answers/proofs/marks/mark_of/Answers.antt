use Rattle.std.proofs.Common.{◌∙◌, rules}
use Rattle.std.proofs.lemmas.Result.{IfOk-weaker}
use Rattle.lsp_answers.proofs.marks.mark_of.Goals as goal

pub returns : goal.returns
returns c = IfOk-weaker c.mark.result _ _ (λ v is. is ∙ search rules) (c.mark.ensures _ _ c.from_utf8_lossy-words.ensures.lossy c.range-range.ensures)
