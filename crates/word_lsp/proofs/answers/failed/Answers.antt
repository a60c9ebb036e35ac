use Rattle.std.proofs.lemmas.Result.{IfOk-weaker}
use Rattle.word_lsp.proofs.answers.failed.Goals as goal

pub returns : goal.returns
returns c = IfOk-weaker c.failure_reply.result _ _ (λ v h. (c.words_of.result.now, h)) c.failure_reply.ensures
