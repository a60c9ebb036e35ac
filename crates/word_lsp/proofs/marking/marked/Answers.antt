use Rattle.std.proofs.Common.{◌∙◌, ap₂, List, subst, ℕ}
use Rattle.std.proofs.lemmas.Result.{IfOk-weaker}
use Rattle.lsp_answers.specs.Marks.{AreMarks}
use Rattle.lsp_answers.specs.Texts.{TextView, text_of}
use Rattle.model.specs.declared.instruction.Profile.{Profile}
use Rattle.serde_json.specs.View.{view}
use Rattle.word_lsp.proofs.marking.marked.Goals as goal

pub returns-in-Ok-published : goal.returns-in-Ok-published
returns-in-Ok-published c =
    let read = c.in-Ok-read.ensures ∙ ap₂ (λ (profile : Profile) (source : List ℕ). text_of profile source) c.profile.ensures
    (c.deref.ensures.value ∙ c.in-Ok.ensures.cleaned) in
    let given = view c.in-Ok-published.marks in
    let marks = subst (λ (t : TextView). AreMarks c.args.map.now c.args.uri.now t given) read c.in-Ok-published.ensures in
    IfOk-weaker c.notice.result _ _ (λ v is. (given, marks, is)) c.notice.ensures
