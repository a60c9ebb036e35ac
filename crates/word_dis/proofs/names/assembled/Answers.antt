use Rattle.word_dis.proofs.Labelled.{behind}
use Rattle.word_dis.proofs.names.assembled.Goals as goal

pub returns-in-Err-Source-clause-refused : goal.returns-in-Err-Source-clause-refused
returns-in-Err-Source-clause-refused c = behind c.args.profile c.args.source.now c.in-Err-Source.fault c.behind_labels.result c.args.count
    (rw c.in-Err-Source.field-0-is at c.in-Err-Source.ensures.refused) c.behind_labels.ensures
