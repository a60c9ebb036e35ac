use Rattle.std.proofs.Common.{subst}
use Rattle.std.proofs.lemmas.Result.{IfOk-weaker}
use Rattle.word_lsp.proofs.Chained.{chained}
use Rattle.word_lsp.proofs.Nothing.{view_null}
use Rattle.word_lsp.specs.Answers.{IsFailure}
use Rattle.serde_json.specs.Data.{Data}
use Rattle.serde_json.specs.View.{view}
use Rattle.word_lsp.proofs.server.refused.Goals as goal

pub returns : goal.returns
returns c =
    IfOk-weaker c.one.result _ _ (λ vs h. (view h.0, subst (λ (d : Data). IsFailure d c.args.failure (view h.0)) view_null h.1, h.2))
    (chained c.failed.result c.one.result _ _ c.failed.ensures c.one.ensures)
