use Rattle.std.proofs.Common.{◌∙◌, ap₂, List, subst, ℕ}
use Rattle.std.proofs.lemmas.Result.{IfOk-weaker}
use Rattle.word_lsp.specs.Answers.{Asked, IsAnswerTo, text_on}
use Rattle.word_lsp.specs.State.{documents_view}
use Rattle.lsp_answers.specs.Texts.{TextView, text_of}
use Rattle.model.specs.declared.instruction.Profile.{Profile}
use Rattle.serde_json.specs.View.{view}
use Rattle.word_lsp.proofs.answers.question_reply.Goals as goal

pub returns-in-Ok-answer_to : goal.returns-in-Ok-answer_to
returns-in-Ok-answer_to c =
    let read = c.in-Ok-read.ensures ∙ ap₂ (λ (profile : Profile) (source : List ℕ). text_of profile source) c.profile.ensures
    (c.deref.ensures.value ∙ c.in-Ok.ensures) in
    let given = view c.in-Ok-answer_to.given in
    let asked : List ℕ → Asked = λ written. record { client = c.args.client; uri = c.args.uri.now; written = written } in
    let of_text = subst (λ (t : TextView). IsAnswerTo c.args.map.now (asked c.written.result.now) t c.args.question given) read c.in-Ok-answer_to.ensures in
    IfOk-weaker c.result_reply.result _ _ (λ v h. (
      given,
      subst (λ (written : List ℕ). IsAnswerTo c.args.map.now (asked written)
          (text_on c.args.map.now (documents_view c.args.documents.now) c.args.uri.now) c.args.question given) c.written.ensures of_text,
      h,
    )) c.result_reply.ensures
