use Rattle.std.proofs.lemmas.Result.{IfOk-weaker}
use Rattle.word_lsp.proofs.server.unknown_marks.Goals as goal

pub returns : goal.returns
returns c = IfOk-weaker c.marks.result _ _ (λ v is. (_, is))
    (c.marks.ensures _ (c.build.ensures _ (c.with.ensures _ _ c.new.ensures (c.mark-one.ensures _ _ c.from_str-words.ensures.ok c.range.ensures))))
