use Rattle.law_sources.proofs.Meaning.{judged_says, denotes_again, fault_again}
use Rattle.law_sources.proofs.law.judging_is_right.Goals as goal

pub returns-clause-meant : goal.returns-clause-meant
returns-clause-meant c = judged_says

pub returns-clause-denoted : goal.returns-clause-denoted
returns-clause-denoted c = denotes_again

pub returns-clause-fault : goal.returns-clause-fault
returns-clause-fault c = fault_again
