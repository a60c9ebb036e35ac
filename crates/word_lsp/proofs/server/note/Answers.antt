use Rattle.std.proofs.Common.{[], ◌∷◌, ◌∙◌, ap}
use Rattle.std.proofs.lemmas.Result.{IfOk-weaker}
use Rattle.word_lsp.proofs.Chained.{chained}
use Rattle.word_lsp.specs.Messages.{published}
use Rattle.serde_json.specs.Data.{Data}
use Rattle.word_lsp.proofs.server.note.Goals as goal

pub returns-in-Close-clause-told : goal.returns-in-Close-clause-told
returns-in-Close-clause-told c =
    rw (c.in-Running.is, c.in-Close.is) (IfOk-weaker c.told_marks.result _ _ (λ vs h. h.2 ∙ ap (λ (d : Data). published d ∷ []) h.1)
    (chained c.marks.result c.told_marks.result _ _ (c.marks.ensures _ (c.build.ensures _ c.new-in-Close.ensures)) c.told_marks.ensures))
