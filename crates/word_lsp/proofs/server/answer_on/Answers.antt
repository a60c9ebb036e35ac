use Rattle.std.proofs.Common.{IfOk, subst}
use Rattle.lsp_messages.specs.Views.{request_view}
use Rattle.model.specs.State.{Map}
use Rattle.serde_json.specs.View.{view}
use Rattle.word_lsp.specs.Answers.{IsReplyIn}
use Rattle.word_lsp.specs.State.{documents_view}
use Rattle.word_lsp.proofs.server.answer_on.Goals as goal

pub returns : goal.returns
returns c =
    subst (λ (m : Map). IfOk c.reply.result (λ v. IsReplyIn m c.args.server.now.phase (documents_view c.args.server.now.documents)
    (view c.args.id.now) (request_view c.args.request) (view v)))
    c.map_in-map.ensures c.reply.ensures
