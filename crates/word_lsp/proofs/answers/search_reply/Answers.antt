use Rattle.std.proofs.Common.{◌≡◌, subst}
use Rattle.std.proofs.lemmas.Result.{IfOk-weaker}
use Rattle.model.specs.declared.instruction.Profile.{Profile}
use Rattle.serde_json.specs.View.{view}
use Rattle.word_lsp.specs.Searches.{found_in_all}
use Rattle.word_lsp.specs.State.{documents_view}
use Rattle.word_lsp.proofs.answers.search_reply.Goals as goal

pub returns-in-Ok : goal.returns-in-Ok
returns-in-Ok c =
    let given = subst (λ (p : Profile). view c.in-Ok.given ≡ found_in_all p c.args.query.now (documents_view c.args.documents.now)) c.profile.ensures
    c.in-Ok.ensures in
    IfOk-weaker c.result_reply.result _ _ (λ v h. (view c.in-Ok.given, given, h)) c.result_reply.ensures
