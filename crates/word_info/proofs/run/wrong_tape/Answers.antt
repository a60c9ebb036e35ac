use Rattle.std.proofs.Common.{◌∙◌, ◌++◌, ap}
use Rattle.word_info.proofs.run.wrong_tape.Goals as goal

pub returns : goal.returns
returns c = (c.in_ok-hint.hint.now, c.in_ok-hint.ensures, c.in_ok-push_str.ensures.bytes ∙ ap (λ t. t ++ c.in_ok-hint.hint.now) c.in_ok-said.ensures.line)
