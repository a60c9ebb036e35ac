use Rattle.word_info.proofs.Forms.{tape_overlaps}
use Rattle.word_info.proofs.run.tape_rows.Goals as goal

pub right_answer-requires-clause-overlaps : goal.right_answer-requires-clause-overlaps
right_answer-requires-clause-overlaps c =
    tape_overlaps c.args.words.now.form c.args.text.now c.args.read.now c.in_ok-overlaps.overlaps.items c.requires.form c.requires.read c.in_ok-overlaps.ensures
