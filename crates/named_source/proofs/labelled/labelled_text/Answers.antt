use Rattle.named_source.proofs.LabelledDenoted.{written_means}
use Rattle.named_source.proofs.labelled.labelled_text.Goals as goal

pub returns-clause-denotes : goal.returns-clause-denotes
returns-clause-denotes c =
    written_means (λ v. v.items) c.labelled_source_denotes.ensures c.args.profile c.args.image.now c.args.marks.now c.write_labelled_source.result
    c.cells.ensures.image c.write_labelled_source.ensures
