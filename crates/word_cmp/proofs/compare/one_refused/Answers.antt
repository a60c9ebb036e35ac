use Rattle.std.proofs.Common.{inl}
use Rattle.word_cmp.proofs.compare.one_refused.Goals as goal

pub returns-clause-fault : goal.returns-clause-fault
returns-clause-fault g c = λ two. inl (c.not_compared.ensures.fault two)
