use Rattle.std.proofs.lemmas.Result.{IfOk-weaker}
use Rattle.serde_json.specs.View.{view}
use Rattle.word_lsp.proofs.Chained.{chained}
use Rattle.word_lsp.proofs.server.told_on.Goals as goal

pub returns-in-None : goal.returns-in-None
returns-in-None c = rw (c.in-None.is) (IfOk-weaker c.one.result _ _ (λ vs h. (view h.0, h.1, h.2))
    (chained c.showing.result c.one.result _ _ c.showing.ensures c.one.ensures))
