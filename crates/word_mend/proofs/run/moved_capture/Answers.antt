use Rattle.word_mend.proofs.CaptureEnds.{moved_same}
use Rattle.word_mend.proofs.run.moved_capture.Goals as goal

pub returns : goal.returns
returns c = moved_same c.at_record-parts.result.0.now c.at_record-parts.result.1.now c.args.text.now c.moved-fault.result c.args.made.kind
    c.args.made.offset c.at_record-parts.ensures.before c.at_record-parts.ensures.behind c.moved-fault.ensures.value
