use Rattle.std.proofs.Common.{◌∙◌, ap}
use Rattle.std.proofs.lemmas.Result.{IfOk-weaker}
use Rattle.std.specs.Prelude.{codes}
use Rattle.lsp_messages.specs.Replies.{notice_data}
use Rattle.serde_json.specs.Data.{Data}
use Rattle.word_lsp.proofs.marking.showing.Goals as goal

pub returns-in-Ok : goal.returns-in-Ok
returns-in-Ok c =
    IfOk-weaker c.notice.result _ _ (λ v is. (c.args.words.now, is ∙ ap (λ (d : Data). notice_data (codes "window/showMessage") d) c.in-Ok.ensures))
    c.notice.ensures
