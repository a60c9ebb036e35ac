use Rattle.std.proofs.Common.{inl}
use Rattle.word_info.proofs.run.wrong_answer.Goals as goal

pub returns : goal.returns
returns c = inl (record { text = c.args.text.now; fault = c.args.fault; first = c.requires; told = c.in_ok-text.ensures })
