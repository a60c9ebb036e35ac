use Rattle.std.proofs.Common.{◌∙◌, sym}
use Rattle.image_reader.proofs.EndRecords.{corrected, unchanged}
use Rattle.word_info.proofs.run.tape_answer.Goals as goal

pub read_answer-requires-clause-read : goal.read_answer-requires-clause-read
read_answer-requires-clause-read c = c.deref.ensures.value ∙ c.in_ok-read.ensures
    ∙ corrected c.args.text.now (sym c.has_count_twice.ensures ∙ c.if-has_count_twice.true)

pub read_answer-requires-else-has_count_twice-clause-read : goal.read_answer-requires-else-has_count_twice-clause-read
read_answer-requires-else-has_count_twice-clause-read c = unchanged c.args.text.now (sym c.has_count_twice.ensures ∙ c.if-has_count_twice.false)
