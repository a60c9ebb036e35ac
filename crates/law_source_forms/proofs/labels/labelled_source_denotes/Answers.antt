use Rattle.law_source_forms.proofs.Filled.{labelled_source_denotes}
use Rattle.law_source_forms.proofs.labels.labelled_source_denotes.Goals as goal

pub returns : goal.returns
returns c = labelled_source_denotes
