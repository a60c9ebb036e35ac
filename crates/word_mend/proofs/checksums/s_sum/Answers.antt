use Rattle.std.proofs.Common.{sym, ◌∙◌}
use Rattle.std.proofs.lemmas.Result.{IfOk-weaker}
use Rattle.word_mend.proofs.RecordSums.{s_none, s_one, s_there}
use Rattle.word_mend.proofs.checksums.s_sum.Goals as goal

pub returns-in-empty : goal.returns-in-empty
returns-in-empty c = s_none c.args.line.now c.in-empty.len_below

pub returns-in-len1 : goal.returns-in-len1
returns-in-len1 c = s_one c.args.line.now c.in-len1.len_at_least c.in-len1.len_below

pub returns-else-not-is_type : goal.returns-else-not-is_type
returns-else-not-is_type c =
    IfOk-weaker c.wrong_in.result _ _ (λ found is. is ∙ s_there c.args.line.now c.in-len2-up.len_at_least c.if-mark-ne83.false
    (sym c.is_type.ensures ∙ c.if-not-is_type.false)) c.wrong_in.ensures
