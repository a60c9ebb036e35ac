use Rattle.std.proofs.Common.{◌∙◌}
use Rattle.std.proofs.lemmas.Result.{IfOk-weaker}
use Rattle.word_mend.proofs.RecordSums.{hex_none, hex_there}
use Rattle.word_mend.proofs.checksums.hex_sum.Goals as goal

pub returns-in-empty : goal.returns-in-empty
returns-in-empty c = hex_none c.args.line.now c.in-empty.len_below

pub returns-then-mark-eq58 : goal.returns-then-mark-eq58
returns-then-mark-eq58 c = IfOk-weaker c.wrong_in.result _ _
    (λ found is. is ∙ hex_there c.args.line.now c.in-len1-up.len_at_least c.if-mark-eq58.true) c.wrong_in.ensures
