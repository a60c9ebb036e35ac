use Rattle.tape_words.proofs.RecordBytes.{three_texts}
use Rattle.word_mend.specs.Captures.{some_left_out}
use Rattle.word_mend.proofs.captures.push_some.Goals as goal

pub returns : goal.returns
unfolding some_left_out
returns c = three_texts _ _ _ _ _ _ _ c.in_ok-push_str.ensures.bytes c.in_ok-push_count.ensures c.in_ok-push_at_line.ensures
