use Rattle.law_source_forms.proofs.Filled.{flagged_source_denotes}
use Rattle.law_source_forms.proofs.labels.flagged_source_denotes.Goals as goal

pub returns : goal.returns
returns c = flagged_source_denotes
