use Rattle.std.proofs.Common.{◌≡◌, ◌∙◌, rules}
use Rattle.std.proofs.lemmas.Result.{IfOk-weaker}
use Rattle.lsp_hints.specs.Fixes.{title_of}
use Rattle.lsp_hints.proofs.fixes.word_fix.Goals as goal

pub returns : goal.returns
returns c =
    let title = IfOk-weaker c.concat-title.result _ (λ w. w.items ≡ title_of c.args.word.now) (λ w is. is ∙ search rules) c.concat-title.ensures in
    IfOk-weaker c.change_of.result _ _ (λ v is. is ∙ search rules) (c.change_of.ensures _ _ c.from_slice-words.ensures.items title)
