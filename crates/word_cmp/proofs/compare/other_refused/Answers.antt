use Rattle.std.proofs.Common.{inr}
use Rattle.word_cmp.proofs.compare.other_refused.Goals as goal

pub returns-clause-fault : goal.returns-clause-fault
returns-clause-fault g c = λ two. inr (c.not_compared.ensures.fault two)
