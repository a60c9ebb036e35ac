use Rattle.law_sources.proofs.Lengths.{len_is}
use Rattle.law_sources.proofs.law.lengths_are_the_tables.Goals as goal

pub returns : goal.returns
returns c = len_is
