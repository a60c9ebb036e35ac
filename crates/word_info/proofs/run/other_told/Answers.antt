use Rattle.std.proofs.Common.{inl}
use Rattle.word_info.proofs.run.other_told.Goals as goal

pub returns : goal.returns
returns c = inl c.in_ok-answer.ensures
