use Rattle.clean_source.proofs.Plain.{plain_stays}
use Rattle.clean_source.proofs.law.plain_source_stays.Goals as goal

pub returns : goal.returns
returns c = plain_stays
