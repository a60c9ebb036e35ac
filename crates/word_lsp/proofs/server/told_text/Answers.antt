use Rattle.std.proofs.Common.{List, subst, ℕ}
use Rattle.std.proofs.lemmas.Result.{IfOk-weaker}
use Rattle.serde_json.specs.View.{view}
use Rattle.word_lsp.proofs.Chained.{chained}
use Rattle.word_lsp.specs.Messages.{IsMarked}
use Rattle.word_lsp.proofs.server.told_text.Goals as goal

pub returns-in-Some : goal.returns-in-Some
returns-in-Some c = rw (c.in-Some.is) (IfOk-weaker c.one.result _ _
    (λ vs h. (view h.0, subst (λ (text : List ℕ). IsMarked c.args.map.now c.args.uri.now text (view h.0)) c.deref.ensures.value h.1, h.2))
    (chained c.marked.result c.one.result _ _ c.marked.ensures c.one.ensures))
