use Rattle.std.proofs.Common.{◌∙◌, [], ◌∷◌, ap}
use Rattle.std.proofs.lemmas.Result.{IfOk-weaker}
use Rattle.word_lsp.proofs.Chained.{chained}
use Rattle.serde_json.specs.Data.{Data}
use Rattle.word_lsp.proofs.server.told_marks.Goals as goal

pub returns-in-Ok : goal.returns-in-Ok
returns-in-Ok c = rw (c.in-Ok.is) (IfOk-weaker c.one.result _ _ (λ vs h. h.2 ∙ ap (λ (d : Data). d ∷ []) h.1)
    (chained c.notice.result c.one.result _ _ c.notice.ensures c.one.ensures))
