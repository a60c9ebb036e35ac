use Rattle.named_source.proofs.LabelledDenoted.{flagged_means}
use Rattle.named_source.proofs.labelled.flagged_text.Goals as goal

pub returns-clause-denotes : goal.returns-clause-denotes
returns-clause-denotes c =
    flagged_means (λ v. v.items) c.flagged_source_denotes.ensures c.args.profile c.args.image.now c.args.marks.now c.args.flags.now
    c.write_flagged_source.result c.cells.ensures.image c.write_flagged_source.ensures
